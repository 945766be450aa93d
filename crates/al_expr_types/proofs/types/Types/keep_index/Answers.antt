use Rattle.al_expr_types.specs.Kept.{IsFieldIndex}
use Rattle.al_expr_types.proofs.Keeping.{each_insert}
use Rattle.al_expr_types.proofs.types.Types.keep_index.Goals as goal

pub invariant_of-self : goal.invariant_of-self
invariant_of-self c =
    let was = c.args.self.now in
    record {
      ordered = was.ordered;
      common = was.common;
      indexed = each_insert (IsFieldIndex was.objects.items) c.insert.result was.indexes c.insert.new.self c.args.n c.args.index c.insert.ensures.updates
          c.insert.ensures.err c.requires was.indexed;
    }
