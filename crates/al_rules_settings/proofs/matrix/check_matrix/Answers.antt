use Rattle.std.proofs.Common.{◌≡◌, ◌++◌, ap, append_assoc, arith, codes, map, rules, true, ◌∙◌}
use Rattle.std.specs.List.{flat_map}
use Rattle.std.specs.Prelude.{is_some}
use Rattle.std.proofs.lemmas.Grind.{common_steps}
use Rattle.al_base.specs.NamePlaces.{name_place}
use Rattle.al_yaml_tree.specs.Access.{mapping_in}
use Rattle.al_yaml_tree.specs.View.{view}
use Rattle.al_tree.specs.Values.{entries_in, items_at, member_of}
use Rattle.al_rules_settings.specs.Matrix.{exclude_faults, exclude_keys, row_faults, row_names}
use Rattle.al_rules_settings.proofs.matrix.check_matrix.Goals as goal

pub returns : goal.returns
returns c =
    let node = view c.args.node.now in
    let old = c.args.faults.now in
    let mapping : is_some (mapping_in node) ≡ true = search rules in
    let added : c.loop-row.faults ≡ old ++ flat_map row_faults (entries_in node) = grind (arith, common_steps) in
    let again : map member_of c.as_slice.result.now ≡ entries_in node = ap (map member_of) c.as_slice.ensures.value ∙ c.in_ok-rows.ensures in
    let keyed = rw again at c.check_excludes.ensures in
    let listed = rw (c.items_under.ensures, added) at keyed in
    rw mapping (rw (append_assoc old (flat_map row_faults (entries_in node))
    (flat_map (exclude_faults (name_place (row_names (entries_in node)))) (exclude_keys (items_at (codes "exclude") node)))) at listed)
