-- The scalars that have expressions, each with its place. They are found by the table of sections,
-- so a value of the wrong shape and a value under an unexpected or repeated key have no place.
use Rattle.std.specs.Prelude.{ℕ, List, [], ◌∷◌, ◌++◌, ◌+◌, Bool, true, false, ◌&&◌, ◌||◌, not}
use Rattle.std.specs.Prelude.{Option, Some, None, is_none, option_map, unwrap_or, if◌then◌else◌}
use Rattle.std.specs.Option.{option_map_or}
use Rattle.al_scalar.specs.Scalar.{Scalar, text_of}
use Rattle.al_yaml_tree.specs.Access.{entries}
use Rattle.al_yaml_tree.specs.Node.{Node, Nodes, Entries, scalar, sequence, mapping, no_nodes, item}
use Rattle.al_yaml_tree.specs.Node.{no_entries, entry}
use Rattle.al_tree.specs.Faults.{Standing, expected, standing, mapping_shape, scalar_fault}
use Rattle.al_tree.specs.Faults.{has_chunk, is_null}
use Rattle.al_tree.specs.Keys.{keys_in}
use Rattle.al_base.specs.Names.{among}
use Rattle.al_tree.specs.Table.{ShapeRule, Keys, no_keys, free, rule}
use Rattle.al_tree.specs.declared.table.Shape.{Shape}
use Rattle.al_tree.specs.declared.table.Shape.TheVariants.{Any}
use Rattle.al_tree.specs.declared.table.ScalarSet.TheVariants.{AnyScalar}
use Rattle.al_tree.specs.Files.{shape_of}
use Rattle.al_tree.specs.declared.files.FileKind.{FileKind}
use Rattle.al_tree.specs.declared.files.FileKind.TheVariants as kind
use Rattle.al_check_places.specs.Availability.{AvailabilityRow, availability, row_view}
use Rattle.al_check_places.specs.Ways.{WayStep, under, nth, keys_of, is_checked, is_one, conditions}
use Rattle.al_check_places.specs.Ways.{scripts}
use Rattle.al_check_places.specs.Positions.{Position, position_of, position_view}
use Rattle.al_check_places.specs.declared.walk.Place as rust

-- A scalar; whether only a scalar is accepted there; which contexts and special functions are
-- available (None: all, or in an action); whether it is a condition, or a step's script; and its
-- position.
pub record Place : Type 0 where
  pub word : Scalar
  pub is_scalar_only : Bool
  pub available : Option AvailabilityRow
  pub is_condition : Bool
  pub is_script : Bool
  pub position : Position

-- what isn't checked accepts anything
abbrev pub rule_or_any : Option ShapeRule → ShapeRule
rule_or_any r = unwrap_or r (record { scalars = AnyScalar; items = Some Any; keys_of = free Any })

-- neither sequences nor mappings are accepted
abbrev pub takes_scalars_only : ShapeRule → Bool
takes_scalars_only r = elim r.keys_of [ no_keys ↦ is_none r.items | _ ↦ false ]

abbrev pub row_of_way : FileKind → List WayStep → Option AvailabilityRow
row_of_way kind.Workflow way = availability (keys_of way)
row_of_way kind.Action way = None

abbrev pub place_at : FileKind → List WayStep → Bool → Scalar → Place
place_at k way only s = record {
  word = s;
  is_scalar_only = only;
  available = row_of_way k way;
  is_condition = is_one conditions (keys_of way);
  is_script = is_one scripts (keys_of way);
  position = position_of k way;
}

-- a scalar that isn't null and that the rule accepts
abbrev pub fits : ShapeRule → Scalar → Bool
fits r s = not (is_null s) && is_none (scalar_fault r.scalars s)

-- a condition is an expression, and a text with `${{` has one
abbrev pub has_expression : List WayStep → Scalar → Bool
has_expression way s = is_one conditions (keys_of way) || has_chunk (text_of s)

-- the place of a scalar, if its way is checked
abbrev pub scalar_places : FileKind → ShapeRule → Bool → List WayStep → Scalar → List Place
scalar_places k r is_item way s =
    if has_expression way s && fits r s && is_checked k way
    then place_at k way (takes_scalars_only r && not is_item) s ∷ [] else []

-- the places of an entry, given those of its value as a node of a shape
abbrev pub entry_places : Standing → (Shape → List Place) → List Place
entry_places (expected s other) value = value s
entry_places _ value = []

abbrev mutual
  -- the places of a node at the end of a way, which should have a shape and may be an item of a
  -- sequence
  pub places_of_node : FileKind → Shape → Bool → List WayStep → Node → List Place
  places_of_node k shape is_item way (scalar s) =
      scalar_places k (rule_or_any (rule shape)) is_item way s
  places_of_node k shape is_item way (sequence ns at) =
      option_map_or (λ s. places_of_items k s way 0 ns) (rule_or_any (rule shape)).items []
  places_of_node k shape is_item way (mapping es at) =
      places_of_entries k (rule_or_any (rule (mapping_shape shape (entries es)))).keys_of []
      (among (keys_in (entries es))) way es

  -- the places of the items of a sequence, from the nth on
  pub places_of_items : FileKind → Shape → List WayStep → ℕ → Nodes → List Place
  places_of_items k s way i no_nodes = []
  places_of_items k s way i (item n ns) =
      places_of_node k s true (way ++ nth i ∷ []) n ++ places_of_items k s way (i + 1) ns

  -- the places of entries after others with the keys seen, in a mapping with all these
  pub places_of_entries : FileKind → Keys → List (List ℕ) → (List ℕ → Bool) → List WayStep
      → Entries → List Place
  places_of_entries k ks seen all way no_entries = []
  places_of_entries k ks seen all way (entry key v es) =
      entry_places (standing ks (among seen) all (text_of key))
      (λ s. places_of_node k s false (way ++ under (text_of key) ∷ []) v)
      ++ places_of_entries k ks (seen ++ text_of key ∷ []) all way es

-- the places of a file with this root
abbrev pub places_of : FileKind → Node → List Place
places_of k root = places_of_node k (shape_of k) false [] root

-- the meaning of the program's places
abbrev pub place_of : rust.Place → Place
place_of p = record {
  word = p.scalar.now;
  is_scalar_only = p.is_scalar_only;
  available = option_map (λ r. row_view r.now) p.available;
  is_condition = p.is_condition;
  is_script = p.is_script;
  position = position_view p.position;
}
