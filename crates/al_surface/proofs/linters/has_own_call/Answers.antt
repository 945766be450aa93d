use Rattle.std.proofs.Common.{◌<◌, List, arith, length, subst}
use Rattle.al_session.specs.declared.lint.Target.{Target}
use Rattle.al_surface.proofs.linters.has_own_call.Goals as goal

pub site-site-requires : goal.site-site-requires
site-site-requires c =
    let unit = c.in_ok-unit.ensures.unit in
    let some : 0 < length c.in_ok-calls.calls.items = omega (arith, c.len.ensures, c.if-len-ne1.false) in
    (c.args.path.now, c.args.bytes.now, unit, subst (λ (calls : List Target). 0 < length calls) (c.in_ok-calls.ensures c.args.bytes.now unit) some)
