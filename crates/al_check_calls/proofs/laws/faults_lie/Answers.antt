use Rattle.al_check_calls.proofs.Inside.{call_faults_lie}
use Rattle.al_check_calls.proofs.laws.faults_lie.Goals as goal

pub returns : goal.returns
returns c = call_faults_lie
