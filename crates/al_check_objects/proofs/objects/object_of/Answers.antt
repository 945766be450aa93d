use Rattle.std.proofs.Common.{◌∙◌, ap, length, map}
use Rattle.std.specs.List.{list_all}
use Rattle.std.specs.Prelude.{zip}
use Rattle.al_types.specs.Types.{object_with}
use Rattle.al_expr_types.proofs.Returned.{both_ok}
use Rattle.al_expr_types.specs.Tables.{objects_of}
use Rattle.al_expr_types.specs.Types.{is_below, rest_in, type_in}
use Rattle.al_check_objects.proofs.Numbers.{always, zip_maps}
use Rattle.al_check_objects.proofs.objects.object_of.Goals as goal

pub fields-requires-clause-fields : goal.fields-requires-clause-fields
fields-requires-clause-fields c = ap (list_all (is_below (length c.args.types.now.objects.items))) c.in_ok-map.ensures.types ∙ c.requires.known

pub returns : goal.returns
returns c =
    let objects = objects_of c.args.types.now in
    let are = (λ d. zip (c.in_ok-map.ensures.names d) (map (type_in objects) (c.in_ok-map.ensures.types d)))
    ∙ zip_maps (λ f. f.0.now) (λ f. f.1) (type_in objects) c.args.fields.now in
    record {
      ty = both_ok c.fields.result c.fields.ensures.ty c.fields.ensures.known
          (λ t is known. record { known = known; is = is ∙ ap (λ ts. object_with ts (rest_in objects c.args.rest)) are });
      kept = always c.fields.result c.fields.ensures.kept;
    }
