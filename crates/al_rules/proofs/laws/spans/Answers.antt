use Rattle.al_rules.proofs.Lying.{all_lie}
use Rattle.al_rules.proofs.laws.spans.Goals as goal

pub returns : goal.returns
returns c = all_lie
