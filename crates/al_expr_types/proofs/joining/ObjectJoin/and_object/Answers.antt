use Rattle.std.proofs.Common.{◌∙◌, ap, map}
use Rattle.std.proofs.lemmas.Result.{IfOk-weaker}
use Rattle.al_types.specs.Fused.{fuse_all}
use Rattle.al_expr_types.specs.Types.{object_in}
use Rattle.al_expr_types.proofs.Fusing.{fused_push}
use Rattle.al_expr_types.proofs.joining.ObjectJoin.and_object.Goals as goal

pub returns-clause-objects : goal.returns-clause-objects
returns-clause-objects c =
    IfOk-weaker c.push.result _ _
    (λ s is ms. ap (λ ns. fuse_all (map (object_in ms) ns)) is ∙ fused_push (object_in ms) c.args.self.objects.items c.args.n) c.push.ensures.objects
