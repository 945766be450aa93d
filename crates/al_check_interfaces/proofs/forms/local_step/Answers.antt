use Rattle.std.proofs.Common.{sym, ◌∙◌}
use Rattle.al_check_interfaces.proofs.forms.local_step.Goals as goal

pub returns-in-Some-Some : goal.returns-in-Some-Some
returns-in-Some-Some c = rw (sym c.in_ok-first.ensures ∙ c.in-Some-Some.is-0, sym c.in_ok-second.ensures ∙ c.in-Some-Some.is-1)
