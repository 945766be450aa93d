use Rattle.std.proofs.Common.{◌∙◌, ap, map, subst, sym}
use Rattle.std.specs.Prelude.{Contains}
use Rattle.al_types.specs.Fused.{fuse_all}
use Rattle.al_expr_types.proofs.Fusing.{fused_push}
use Rattle.al_expr_types.proofs.Gathering.{held_object}
use Rattle.al_expr_types.proofs.lists.Lists.and.Goals as goal

pub returns-then-is_at-clause-common : goal.returns-then-is_at-clause-common
returns-then-is_at-clause-common c = λ f.
    sym (held_object f c.args.list.items c.args.n (subst (λ ns. Contains ns c.args.n) c.as_slice.ensures.value (c.is_at.ensures c.if-is_at.true)))

pub returns-clause-common : goal.returns-clause-common
returns-clause-common c = λ f. ap (λ ns. fuse_all (map f ns)) c.in_ok-push.ensures.items ∙ fused_push f c.args.list.items c.args.n
