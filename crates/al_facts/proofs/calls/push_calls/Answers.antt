use Rattle.std.proofs.Common.{◌<◌, List, arith, length, subst}
use Rattle.al_session.specs.declared.lint.Target.{Target}
use Rattle.al_facts.proofs.calls.push_calls.Goals as goal

pub site-requires : goal.site-requires
site-requires g c =
    let unit = c.in_ok-unit.ensures.unit in
    let below : c.loop-number.number < length c.in_ok-targets.targets.items = omega (arith, c.loop-number-test.true) in
    (c.args.path.now, c.args.bytes.now, unit, subst (λ (calls : List Target). c.loop-number.number < length calls) (c.in_ok-targets.ensures c.args.bytes.now unit) below)
