use Rattle.std.proofs.Common.{◌∙◌, ap, length}
use Rattle.std.specs.List.{list_all}
use Rattle.al_types.specs.Types.{object_type}
use Rattle.al_expr_types.specs.Prefixes.{map_in, prefix_parts}
use Rattle.al_expr_types.specs.Tables.{objects_of}
use Rattle.al_expr_types.specs.Types.{is_below}
use Rattle.al_expr_types.proofs.PrefixLemmas.{prefix_kept, prefix_longer, types_wider}
use Rattle.al_expr_types.proofs.prefixes.Prefixes.first.Goals as goal

pub object-requires-clause-below : goal.object-requires-clause-below
object-requires-clause-below c =
    let new = c.base_of.new.types.objects.items in
    ap (λ m. list_all (is_below (length new)) m.types.items) c.in_ok-base.ensures.map
    ∙ types_wider new c.args.types.now.objects.items (map_in c.args.self.now) c.in_ok-base.ensures.kept c.requires.below

pub returns-clause-ty : goal.returns-clause-ty
returns-clause-ty c =
    let old = c.args.types.now.objects.items in
    let middle = c.base_of.new.types in
    c.object-2.ensures.ty (objects_of c.object.new.types)
    ∙ ap object_type (c.in_ok-n.ensures.object ∙ ap (λ m. prefix_parts (objects_of middle) m c.args.count) c.in_ok-base.ensures.map
    ∙ prefix_kept middle.objects.items old (map_in c.args.self.now) c.args.count c.in_ok-base.ensures.kept c.requires.below)

pub returns-clause-base : goal.returns-clause-base
returns-clause-base c =
    let middle = c.base_of.new.types in
    let m = map_in c.args.self.now in
    prefix_longer c.object.new.types middle m c.base_of.new.self.base c.in_ok-n.ensures.kept
    (types_wider middle.objects.items c.args.types.now.objects.items m c.in_ok-base.ensures.kept c.requires.below) c.in_ok-base.ensures.base
