use Rattle.al_check_expressions.proofs.Plain.{plain}
use Rattle.al_check_expressions.proofs.law.plain_texts_are_right.Goals as goal

pub returns : goal.returns
returns c = λ scope p none without. plain scope p none without
