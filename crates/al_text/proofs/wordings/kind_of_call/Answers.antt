use Rattle.std.proofs.Common.{refl}
use Rattle.al_text.proofs.wordings.kind_of_call.Goals as goal

pub returns-in-Job : goal.returns-in-Job
returns-in-Job c = rw c.in-Job.is refl

pub returns-in-Step : goal.returns-in-Step
returns-in-Step c = rw c.in-Step.is refl
