use Rattle.std.proofs.Common.{◌≡◌, ◌∙◌, [], ap, arith, length}
use Rattle.al_expr_types.specs.Types.{object_in, object_parts, parts_of_all}
use Rattle.al_base.proofs.Growing.{begins_by}
use Rattle.al_expr_types.proofs.Tables.{length_after, number_of_more, one_more, grown_if}
use Rattle.al_expr_types.proofs.Keeping.{commons_longer, indexes_longer}
use Rattle.al_expr_types.proofs.types.Types.push.Goals as goal

pub returns-clause-objects : goal.returns-clause-objects
returns-clause-objects c =
    let os = c.args.self.now.objects.items in
    ap parts_of_all c.in_ok-push.ensures.items ∙ one_more os c.args.object

pub returns-clause-number : goal.returns-clause-number
returns-clause-number c =
    let os = c.args.self.now.objects.items in
    let len : length (parts_of_all os) ≡ c.len-number.result = length_after [] os ∙ omega (arith, c.len-number.ensures) in
    ap (λ ms. object_in ms c.len-number.result) (ap parts_of_all c.in_ok-push.ensures.items ∙ one_more os c.args.object)
    ∙ number_of_more (parts_of_all os) (object_parts (parts_of_all os) c.args.object) c.len-number.result len

pub returns-clause-kept : goal.returns-clause-kept
returns-clause-kept c =
    let os = c.args.self.now.objects.items in
    begins_by _ _ _ (ap parts_of_all c.in_ok-push.ensures.items ∙ one_more os c.args.object)

pub invariant_of-self : goal.invariant_of-self
invariant_of-self c =
    let was = c.args.self.now in
    let grown = grown_if _ c.push.new.self.items was.objects.items c.args.object c.push.ensures.items was.ordered c.requires in
    record {
      ordered = grown.0;
      common = commons_longer c.push.new.self.items was.objects.items was.commons grown.1 was.common;
      indexed = indexes_longer c.push.new.self.items was.objects.items was.indexes grown.1 was.indexed;
    }
