use Rattle.al_expr_types.specs.Kept.{IsCommon}
use Rattle.al_expr_types.proofs.Keeping.{each_insert}
use Rattle.al_expr_types.proofs.types.Types.keep_common.Goals as goal

pub invariant_of-self : goal.invariant_of-self
invariant_of-self c =
    let was = c.args.self.now in
    record {
      ordered = was.ordered;
      common = each_insert (IsCommon was.objects.items) c.insert.result was.commons c.insert.new.self c.args.n c.args.common c.insert.ensures.updates
          c.insert.ensures.err c.requires was.common;
      indexed = was.indexed;
    }
