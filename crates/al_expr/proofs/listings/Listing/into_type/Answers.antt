use Rattle.std.proofs.Common.{ap, map, ◌∙◌}
use Rattle.al_types.specs.Types.{object_type, parts_with}
use Rattle.al_expr.specs.Trees.{field_of, rest_of}
use Rattle.al_expr.proofs.Firsts.{firsts_same}
use Rattle.al_expr.proofs.TreeViews.{object_view}
use Rattle.al_expr.proofs.listings.Listing.into_type.Goals as goal

pub returns : goal.returns
returns c =
    let l = c.args.self in
    object_view l.fields l.rest
    ∙ ap (λ ts. object_type (parts_with ts (rest_of l.rest))) (firsts_same (map field_of l.fields.items) l.distinct)
