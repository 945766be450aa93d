use Rattle.al_check_expressions.proofs.Inside.{expression_faults_lie}
use Rattle.al_check_expressions.proofs.law.all_lie_in_file.Goals as goal

pub returns : goal.returns
returns c size kind known root w f = expression_faults_lie size kind known root w f
