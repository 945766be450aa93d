use Rattle.std.proofs.Common.{arith, length, ◌-◌, ◌∙◌}
use Rattle.std.proofs.lemmas.Bool.{eq-eqb}
use Rattle.al_base.proofs.SameName.{same_at, same_length}
use Rattle.al_base.proofs.names.end_alike.Goals as goal

pub returns-then-length-b : goal.returns-then-length-b
returns-then-length-b c = λ h. let e = same_length c.args.a.now c.args.b.now h in absurd (omega (arith, e, c.if-length-b.true))

pub returns-else-length-eq0 : goal.returns-else-length-eq0
returns-else-length-eq0 c = λ h. c.eq_ignore_ascii_case.ensures ∙ eq-eqb _ _ (same_at c.args.a.now c.args.b.now (length c.args.a.now - 1) 0 h)
