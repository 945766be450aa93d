-- The type of `matrix` in a job (GitHub, "Workflow syntax", `jobs.<job_id>.strategy.matrix`).
use Rattle.std.specs.Prelude.{List, [], ◌∷◌, Bool, ◌||◌, codes, Option, Some, None, is_some}
use Rattle.std.specs.Prelude.{if◌then◌else◌}
use Rattle.std.specs.List.{filter_map, fold, list_any}
use Rattle.std.specs.Option.{option_map_or}
use Rattle.al_scalar.specs.Scalar.{Scalar, text_of}
use Rattle.al_types.specs.Types.{Type', Any, ArrayOf, Optional, Absent, Present}
use Rattle.al_types.specs.Types.{fuse_optional, option_of, or_any}
use Rattle.al_yaml_tree.specs.Access.{mapping_in, scalar_in}
use Rattle.al_yaml_tree.specs.Node.{Node, Nodes, Entries, scalar, sequence, mapping, no_nodes, item}
use Rattle.al_yaml_tree.specs.Node.{no_entries, entry}
use Rattle.al_yaml_tree.specs.View.{entries_of, nodes_of}
use Rattle.al_tree.specs.Keys.{key_of}
use Rattle.al_tree.specs.Names.{is_combination_key}
use Rattle.al_tree.specs.Values.{entries_in, items_in, value_at, value_below}
use Rattle.al_check_objects.specs.Objects.{loose_any, strictly}
use Rattle.al_check_objects.specs.Scalars.{scalar_type_with}
use Rattle.al_types.specs.Puts.{TypedName, firsts, put_or_fuse, put_all}

-- The type of a value: an expression can have any type, a sequence is an array of what its items
-- have in common, a mapping a strict object, where the first of equal names counts.
abbrev mutual
  pub node_type : Node → Type'
  node_type (scalar s) = scalar_type_with Any s
  node_type (sequence ns at) = ArrayOf (or_any (option_of (items_type Absent ns)))
  node_type (mapping es at) = strictly (firsts (fields_of es))

  -- what a type, if there is one, and those of these items have in common
  pub items_type : Optional → Nodes → Optional
  items_type sofar no_nodes = sofar
  items_type sofar (item n ns) = items_type (fuse_optional sofar (Present (node_type n))) ns

  pub fields_of : Entries → List TypedName
  fields_of no_entries = []
  fields_of (entry k v es) = (text_of k, node_type v) ∷ fields_of es

-- the type of a row: what its items have in common, or any if it has none
abbrev pub row_type : Node → Type'
row_type n = or_any (option_of (items_type Absent (nodes_of (items_in n))))

-- the rows of a matrix, each of which has a name
abbrev pub row_field : Scalar × Node → Option TypedName
row_field e = if is_combination_key (key_of e) then None else Some (key_of e, row_type e.1)

abbrev pub rows_of : Node → List TypedName
rows_of n = firsts (filter_map row_field (entries_in n))

-- the entries of one combination
abbrev pub combination : Node → List TypedName
combination n = option_map_or (λ es. firsts (fields_of (entries_of es))) (mapping_in n) []

abbrev pub include_all : List TypedName → List Node → List TypedName
include_all = fold (λ ts n. put_all put_or_fuse ts (combination n))

-- an `include` that is known only when the workflow runs
abbrev pub is_open_include : Node → Bool
is_open_include n = is_some (scalar_in n) || list_any (λ i. is_some (scalar_in i)) (items_in n)

-- the rows, and what each combination of `include` adds to them
abbrev pub with_combinations : List TypedName → Option Node → Type'
with_combinations rows None = strictly rows
with_combinations rows (Some n) =
    if is_open_include n then loose_any else strictly (include_all rows (items_in n))

-- the type of a matrix; one given by a scalar, such as an expression, can have any field
abbrev pub matrix_of : Node → Type'
matrix_of n =
    if is_some (scalar_in n) then loose_any else
    with_combinations (rows_of n) (value_at (codes "include") n)

-- the type of `matrix` in a job; without a matrix it has no properties
abbrev pub matrix_type : Node → Type'
matrix_type job =
    option_map_or matrix_of (value_below (codes "strategy" ∷ codes "matrix" ∷ []) job) (strictly [])
