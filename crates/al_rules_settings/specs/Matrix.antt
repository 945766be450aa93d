-- Faults of a matrix.
use Rattle.std.specs.Prelude.{ℕ, List, [], ◌∷◌, ◌++◌, Bool, false, ◌||◌, not, codes, map, Option}
use Rattle.std.specs.Prelude.{is_some, if◌then◌else◌}
use Rattle.std.specs.List.{list_all, flat_map, filter}
use Rattle.std.specs.Option.{option_map_or}
use Rattle.al_base.specs.NamePlaces.{name_place}
use Rattle.al_base.specs.declared.codes.RuleCode.TheVariants.{UnknownMatrixRow, WrongMatrix}
use Rattle.al_base.specs.declared.faults.Fault.{Fault}
use Rattle.al_base.specs.declared.faults.Span.{Span}
use Rattle.al_scalar.specs.Scalar.{Scalar, text_of}
use Rattle.al_yaml_tree.specs.Access.{mapping_in, scalar_in, sequence_in}
use Rattle.al_yaml_tree.specs.Node.{Node, span_of}
use Rattle.al_tree.specs.Faults.{has_chunk, is_null}
use Rattle.al_tree.specs.Keys.{key_of, keys_in}
use Rattle.al_tree.specs.Names.{is_combination_key}
use Rattle.al_tree.specs.Values.{entries_in, items_at}
use Rattle.al_rules_settings.specs.Words.{Named, of_scalar, rule_fault, unless}

abbrev pub is_null_node : Node → Bool
is_null_node n = option_map_or is_null (scalar_in n) false

-- a scalar with an expression
abbrev pub is_dynamic : Node → Bool
is_dynamic n = option_map_or (λ s. has_chunk (text_of s)) (scalar_in n) false

-- `include` and `exclude`: a sequence of mappings or scalars with an expression
abbrev pub is_combination : Node → Bool
is_combination n = is_some (mapping_in n) || is_dynamic n

abbrev pub are_combinations : Node → Bool
are_combinations n = option_map_or (list_all is_combination) (sequence_in n) false

abbrev pub is_row_value : List ℕ → Node → Bool
is_row_value k n =
    is_null_node n || is_dynamic n
    || (if is_combination_key k then are_combinations n else is_some (sequence_in n))

-- the fault of a wrong shape
abbrev pub shape_faults : Bool → Span → List ℕ → List Fault
shape_faults right at name = if right then [] else rule_fault WrongMatrix at (name ∷ []) ∷ []

abbrev pub row_faults : Scalar × Node → List Fault
row_faults m = shape_faults (is_row_value (key_of m) m.1) (span_of m.1) (key_of m)

-- the names of the rows
abbrev pub row_names : List (Scalar × Node) → List (List ℕ)
row_names ms = filter (λ k. not (is_combination_key k)) (keys_in ms)

-- the keys of `exclude`
abbrev pub exclude_keys : List Node → List Named
exclude_keys items = flat_map (λ item. map (λ m. of_scalar m.0) (entries_in item)) items

-- the fault of one of them that isn't a row, given the positions of the rows
abbrev pub exclude_faults : (List ℕ → Option ℕ) → Named → List Fault
exclude_faults place n = unless (is_some (place n.text)) UnknownMatrixRow n

-- the faults of a matrix that is a mapping
abbrev pub mapping_faults : Node → List Fault
mapping_faults n =
    flat_map row_faults (entries_in n)
    ++ flat_map (exclude_faults (name_place (row_names (entries_in n))))
    (exclude_keys (items_at (codes "exclude") n))

abbrev pub matrix_faults : Node → List Fault
matrix_faults n =
    if is_some (mapping_in n) then mapping_faults n
    else shape_faults (is_null_node n || is_dynamic n) (span_of n) (codes "matrix")
