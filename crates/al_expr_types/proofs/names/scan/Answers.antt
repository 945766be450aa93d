use Rattle.std.proofs.Common.{◌∙◌, sym}
use Rattle.std.proofs.lemmas.List.{get_or_default}
use Rattle.al_base.specs.Names.{same_name}
use Rattle.al_expr_types.proofs.Scans.{found_here, missed_here}
use Rattle.al_expr_types.proofs.names.scan.Goals as goal

pub returns-then-is_same_name : goal.returns-then-is_same_name
returns-then-is_same_name c =
    let names = c.args.names.now in
    let lt = c.loop-i-test.true in
    sym (found_here (λ n. n.now) (λ m. same_name m c.args.name.now) names c.loop-i.i _ lt (get_or_default names c.loop-i.i _ _ lt) c.loop-i.invariant
    (sym c.is_same_name.ensures ∙ c.if-is_same_name.true))

pub loop-i-preserved : goal.loop-i-preserved
loop-i-preserved c =
    let names = c.args.names.now in
    let lt = c.loop-i-test.true in
    missed_here (λ n. n.now) (λ m. same_name m c.args.name.now) names c.loop-i.i _ lt (get_or_default names c.loop-i.i _ _ lt) c.loop-i.invariant
    (sym c.is_same_name.ensures ∙ c.if-is_same_name.false)
