use Rattle.std.proofs.Common.{◌∙◌, ap, sym}
use Rattle.al_types.specs.Types.{Present, fuse_type, object_type}
use Rattle.al_types.proofs.FuseLaws.{fuse_same}
use Rattle.al_expr_types.specs.Types.{arrays_of, object_in}
use Rattle.al_expr_types.proofs.joining.join_objects.Goals as goal

pub returns-then-m-n-clause-ty : goal.returns-then-m-n-clause-ty
returns-then-m-n-clause-ty c = λ ms.
    let one = object_type (object_in ms c.args.m) in
    ap (λ t. Present (arrays_of c.args.arrays t)) (sym (fuse_same one) ∙ ap (λ k. fuse_type one (object_type (object_in ms k))) c.if-m-n.true)
