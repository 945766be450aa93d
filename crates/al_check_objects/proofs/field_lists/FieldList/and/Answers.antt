use Rattle.std.proofs.Common.{◌∙◌, length}
use Rattle.al_types.specs.Puts.{put_new}
use Rattle.al_expr_types.specs.Tables.{objects_of}
use Rattle.al_check_objects.proofs.field_lists.FieldList.and.Goals as goal

pub returns : goal.returns
returns c = λ types ts m h k. record {
  known = c.in_ok-map.ensures.below (length types.objects.items) h.known k.known;
  are = c.in_ok-map.ensures.fields (objects_of types) ∙ (λ d. put_new (h.are d) (c.args.name.now, k.is d));
}
