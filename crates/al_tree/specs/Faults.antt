-- The faults of a node, by the shape that it should have.
use Rattle.std.specs.Prelude.{ℕ, List, [], ◌∷◌, ◌++◌, ◌==◌, Bool, true, false, codes, map, Option}
use Rattle.std.specs.Prelude.{Some, None, ◌||◌, ◌&&◌, not}
use Rattle.std.specs.Prelude.{if◌then◌else◌, find, nat_eq, length, option_map, option_and_then}
use Rattle.std.specs.Bool.{then_some}
use Rattle.std.specs.List.{flat_map, starts_with}
use Rattle.std.specs.Option.{option_map_or}
use Rattle.std.specs.Str.{bytes_eq}
use Rattle.std.specs.Str.Lossy.{utf8_lossy}
use Rattle.al_scalar.specs.Scalar.{Scalar, text_of}
use Rattle.al_scalar.specs.declared.styles.Class.{Class}
use Rattle.al_scalar.specs.declared.styles.Class.TheVariants as class
use Rattle.al_scalar.specs.contracts.styles.ClassPartialEq.TheImpl as classes
use Rattle.al_scalar.specs.declared.styles.Style.TheVariants as style
use Rattle.al_scalar.specs.contracts.styles.StylePartialEq.TheImpl as styles
use Rattle.al_base.specs.declared.codes.Code.TheVariants as code
use Rattle.al_base.specs.declared.codes.KeyCode as codes_key
use Rattle.al_base.specs.declared.codes.KeyCode.TheVariants.{Unexpected, Missing, Repeated}
use Rattle.al_base.specs.declared.codes.KeyCode.TheVariants.{WrongKind, WrongType, NotBeside}
use Rattle.al_base.specs.declared.codes.KeyCode.TheVariants.{EmptyFile}
use Rattle.al_base.specs.declared.faults.Fault.{Fault}
use Rattle.al_base.specs.declared.faults.Span.{Span}
use Rattle.al_yaml_tree.specs.Access.{entries, scalar_in}
use Rattle.al_yaml_tree.specs.Node.{Node, Nodes, Entries, scalar, sequence, mapping, no_nodes, item}
use Rattle.al_yaml_tree.specs.Node.{no_entries, entry}
use Rattle.al_tree.specs.Keys.{key_of, keys_in}
use Rattle.al_tree.specs.Names.{is_event}
use Rattle.al_base.specs.Names.{among}
use Rattle.al_tree.specs.Table.{Field, Keys, no_keys, free, keys, rule, Need, optional, required}
use Rattle.al_tree.specs.Table.{unless, Clash, never, after}
use Rattle.al_tree.specs.Table.{beside, Others, wrong, wrong_beside, unchecked, events}
use Rattle.al_tree.specs.declared.standings.Standing as rust
use Rattle.al_tree.specs.declared.table.Shape.{Shape}
use Rattle.al_tree.specs.declared.table.Shape.TheVariants.{On, Jobs, Job, Any, Runs, NodeRuns}
use Rattle.al_tree.specs.declared.table.Shape.TheVariants.{CompositeRuns, DockerRuns}
use Rattle.al_tree.specs.declared.table.Trigger.TheVariants.{Events, Event}
use Rattle.al_tree.specs.declared.table.ScalarSet.{ScalarSet}
use Rattle.al_tree.specs.declared.table.ScalarSet.TheVariants.{NoScalar, AnyScalar, NotNull, Bools}
use Rattle.al_tree.specs.declared.table.ScalarSet.TheVariants.{Numbers, Chunks}

-- A fault with these texts as arguments, which are UTF-8: bytes that aren't become U+FFFD, but no
-- file that was read has any.
abbrev pub key_fault : codes_key.KeyCode → Span → List (List ℕ) → Fault
key_fault key at texts = record { span = at; code = code.Key key; args = map utf8_lossy texts }

abbrev pub one_fault : codes_key.KeyCode → Span → List ℕ → List Fault
one_fault key at text = key_fault key at (text ∷ []) ∷ []

-- whether the text has a `${{`
abbrev pub has_chunk : List ℕ → Bool
has_chunk [] = false
has_chunk (b ∷ bs) = starts_with nat_eq (b ∷ bs) (codes "${{") || has_chunk bs

abbrev pub has_class : Class → Scalar → Bool
has_class k s = classes.ghosts.eq s.class k

abbrev pub is_null : Scalar → Bool
is_null = has_class class.Null

abbrev pub is_key : List ℕ → Scalar × Node → Bool
is_key k e = bytes_eq (key_of e) k

-- the value of the first entry with a key
abbrev pub value_in : List ℕ → List (Scalar × Node) → Option Node
value_in k es = option_map (λ e. e.1) (find (is_key k) es)

-- A scalar that isn't accepted: of the wrong type if some scalars are accepted, otherwise of the
-- wrong kind.
abbrev pub scalar_fault : ScalarSet → Scalar → Option codes_key.KeyCode
scalar_fault AnyScalar s = None
scalar_fault NoScalar s = Some WrongKind
scalar_fault NotNull s = then_some (is_null s) WrongType
scalar_fault Bools s = then_some (not (has_class class.Bool s || has_chunk (text_of s))) WrongType
scalar_fault Numbers s =
    then_some (not (has_class class.Int s || has_class class.Float s || has_chunk (text_of s)))
    WrongType
scalar_fault Chunks s = then_some (not (has_chunk (text_of s))) WrongKind

-- the shape of `runs`, by `using`; if that is unknown, only `using` is checked
abbrev pub runs_of : List ℕ → Shape
runs_of using =
    if among (codes "node12" ∷ codes "node16" ∷ codes "node20" ∷ codes "node24" ∷ []) using then
    NodeRuns
    else (if bytes_eq using (codes "composite") then CompositeRuns
    else (if bytes_eq using (codes "docker") then DockerRuns
    else Runs))

abbrev pub mapping_shape : Shape → List (Scalar × Node) → Shape
mapping_shape Runs es =
    option_map_or (λ s. runs_of (text_of s))
    (option_and_then scalar_in (value_in (codes "using") es)) Runs
mapping_shape s es = s

-- every key except `on`, `jobs` and that of a job accepts null
abbrev pub takes_null : Shape → Bool
takes_null (On Events) = false
takes_null Jobs = false
takes_null Job = false
takes_null _ = true

-- Whether a key is required in a mapping, whose keys are given as a test.
abbrev pub is_needed : Need → (List ℕ → Bool) → Bool
is_needed optional all = false
is_needed required all = true
is_needed (unless k) all = not (all k)

-- a required key that is missing in the mapping with this span
abbrev pub missing_fault : Span → (List ℕ → Bool) → Field → List Fault
missing_fault at all f =
    if is_needed f.need all && not (all f.key)
    then one_fault Missing (record { start = at.start; end = at.start }) f.key else []

-- the key that a key isn't allowed beside, if it is among those seen so far, or among all
abbrev pub clash_with : Clash → (List ℕ → Bool) → (List ℕ → Bool) → Option (List ℕ)
clash_with never seen all = None
clash_with (after k) seen all = then_some (seen k) k
clash_with (beside k) seen all = then_some (all k) k

-- The standing of an entry in its mapping: its key repeats an earlier one; is unexpected; isn't
-- checked; or its value should have a shape. A text is a key that is present and that the entry
-- isn't allowed beside.
pub data Standing : Type 0 where
  repeated : Standing
  unexpected : Option (List ℕ) → Standing
  ignored : Standing
  expected : Shape → Option (List ℕ) → Standing

-- the standing of a key without a field
abbrev pub other_standing : Others → (List ℕ → Bool) → (List ℕ → Bool) → List ℕ → Standing
other_standing wrong seen all k = if seen k then repeated else unexpected None
other_standing (wrong_beside u) seen all k = if seen k then repeated
    else unexpected (then_some (all u) u)
other_standing unchecked seen all k = ignored
other_standing events seen all k = if seen k then repeated
    else expected (if is_event k then On Event else Any) None

-- the standing of an entry with a key after the keys seen so far, in a mapping with all these: the
-- first of equal keys counts
abbrev pub standing : Keys → (List ℕ → Bool) → (List ℕ → Bool) → List ℕ → Standing
standing no_keys seen all k = ignored
standing (free s) seen all k = if seen k then repeated else expected s None
standing (keys others fs) seen all k =
    option_map_or (λ f. if seen k then repeated else expected f.shape (clash_with f.clash seen all))
    (find (λ f. bytes_eq f.key k) fs)
    (other_standing others seen all k)

abbrev pub beside_faults : Option (List ℕ) → Scalar → List Fault
beside_faults other key =
    option_map_or (λ k. key_fault NotBeside key.span (text_of key ∷ k ∷ []) ∷ []) other []

-- the faults of an entry, given those of its value as a node of a shape
abbrev pub entry_faults : Standing → Scalar → (Shape → List Fault) → List Fault
entry_faults repeated key value = one_fault Repeated key.span (text_of key)
entry_faults (unexpected other) key value =
    one_fault Unexpected key.span (text_of key) ++ beside_faults other key
entry_faults ignored key value = []
entry_faults (expected s other) key value = beside_faults other key ++ value s

-- the faults of a mapping with these keys, given those of its entries
abbrev pub keyed_faults : Keys → List ℕ → (List ℕ → Bool) → Span → (Keys → List Fault) → List Fault
keyed_faults no_keys above all at inside = one_fault WrongKind at above
keyed_faults (free s) above all at inside = inside (free s)
keyed_faults (keys others fs) above all at inside =
    flat_map (missing_fault at all) fs ++ inside (keys others fs)

abbrev mutual
  -- the faults of a node below a key, which should have a shape and may be null or not
  pub faults : Shape → Bool → List ℕ → Node → List Fault
  faults shape null above (scalar s) =
      if is_null s && null then []
      else option_map_or (λ k. one_fault k s.span above)
      (option_and_then (λ r. scalar_fault r.scalars s) (rule shape)) []
  faults shape null above (sequence ns at) =
      option_map_or (λ r. option_map_or (λ s. items_faults s above ns) r.items
      (one_fault WrongKind at above)) (rule shape) []
  faults shape null above (mapping es at) =
      let all = among (keys_in (entries es)) in
      option_map_or (λ r. keyed_faults r.keys_of above all at (λ ks. entries_faults ks [] all es))
      (rule (mapping_shape shape (entries es))) []

  -- the faults of the items of a sequence below a key
  pub items_faults : Shape → List ℕ → Nodes → List Fault
  items_faults s above no_nodes = []
  items_faults s above (item n ns) = faults s false above n ++ items_faults s above ns

  -- the faults of entries after others with the keys seen, in a mapping with all these
  pub entries_faults : Keys → List (List ℕ) → (List ℕ → Bool) → Entries → List Fault
  entries_faults ks seen all no_entries = []
  entries_faults ks seen all (entry k v es) =
      entry_faults (standing ks (among seen) all (text_of k)) k
      (λ s. faults s (takes_null s) (text_of k) v)
      ++ entries_faults ks (seen ++ text_of k ∷ []) all es

-- an empty node: nothing was written
abbrev pub is_empty_node : Node → Bool
is_empty_node n =
    option_map_or (λ s. styles.ghosts.eq s.style style.Plain && (length s.cells == 0))
    (scalar_in n) false

-- the faults of a file's root
abbrev pub root_faults : Shape → Node → List Fault
root_faults s n = if is_empty_node n
    then key_fault EmptyFile (record { start = 0; end = 0 }) [] ∷ []
    else faults s false (codes "file") n

-- the meaning of the program's `Standing`
abbrev pub standing_view : rust.Standing → Standing
standing_view rust.TheVariants.Repeated = repeated
standing_view (rust.TheVariants.Unexpected other) = unexpected (option_map (λ k. k.now) other)
standing_view rust.TheVariants.Ignored = ignored
standing_view (rust.TheVariants.Expected s other) = expected s (option_map (λ k. k.now) other)
