-- The faults of a node are within the file if the node is.
use Rattle.std.specs.Prelude.{ℕ, ◌≤◌, ◌&&◌, Bool, true, false, not, List, [], ◌∷◌, ◌++◌, codes, All, Option, Some, None, option_and_then}
use Rattle.std.proofs.Common.{cond, arith}
use Rattle.std.proofs.lemmas.List.Elements.{All-append, All-from_recursion}
use Rattle.std.specs.List.{flat_map}
use Rattle.std.specs.Option.{option_map_or}
use Rattle.al_base.specs.Spans.{LiesIn}
use Rattle.al_base.specs.declared.codes.KeyCode as codes_key
use Rattle.al_base.specs.declared.codes.KeyCode.TheVariants.{Unexpected}
use Rattle.al_base.specs.declared.faults.Fault.{Fault}
use Rattle.al_base.specs.declared.faults.Span.{Span}
use Rattle.al_yaml_tree.specs.Access.{entries}
use Rattle.al_scalar.specs.Scalar.{Scalar, text_of}
use Rattle.al_yaml_tree.specs.Node.{Node, Nodes, Entries, scalar, sequence, mapping, no_nodes, item, no_entries, entry}
use Rattle.al_yaml_tree.specs.Spans.{IsInside, AreInside, EntriesInside}
use Rattle.al_tree.specs.Faults.{Standing, repeated, unexpected, ignored, expected, beside_faults, entries_faults, entry_faults, key_fault}
use Rattle.al_tree.specs.Faults.{faults, is_empty_node, is_needed, is_null, items_faults, keyed_faults, mapping_shape, missing_fault}
use Rattle.al_tree.specs.Faults.{one_fault, root_faults, scalar_fault, standing, takes_null}
use Rattle.al_tree.specs.Keys.{keys_in}
use Rattle.al_base.specs.Names.{among}
use Rattle.al_tree.specs.Table.{Field, Keys, no_keys, free, keys, ShapeRule, rule}
use Rattle.al_tree.specs.declared.table.Shape.{Shape}

abbrev Lies : ℕ → Fault → Type 0
Lies size f = LiesIn size f.span

module _ (size : ℕ) where
  none_lie : All (Lies size) []
  none_lie = All-from_recursion (Lies size) [] tt

  one_lies : (f : Fault) → LiesIn size f.span → All (Lies size) (f ∷ [])
  one_lies f i = All-from_recursion (Lies size) (f ∷ []) (i, tt)

  both : (xs ys : List Fault) → All (Lies size) xs → All (Lies size) ys → All (Lies size) (xs ++ ys)
  both xs ys p q = All-append (Lies size) xs ys p q

  either : (b : Bool) (xs ys : List Fault) → All (Lies size) xs → All (Lies size) ys → All (Lies size) (cond b xs ys)
  either true xs ys p q = p
  either false xs ys p q = q

  start_lies : (at : Span) → LiesIn size at → LiesIn size (record { start = at.start; end = at.start })
  start_lies at i = let o : at.start ≤ at.end = i.ordered in let e : at.end ≤ size = i.inside in record { ordered = omega arith; inside = omega arith }

  word_lies : (key : Option codes_key.KeyCode) (above : List ℕ) (at : Span) → LiesIn size at → All (Lies size) (option_map_or (λ k. one_fault k at above) key [])
  word_lies None above at i = none_lie
  word_lies (Some key) above at i = one_lies _ i

  sequence_lies : (r : Option ShapeRule) (misfit : List Fault) (items : Shape → List Fault) → All (Lies size) misfit
      → ((s : Shape) → All (Lies size) (items s)) → All (Lies size) (option_map_or (λ o. option_map_or items o.items misfit) r [])
  sequence_lies None misfit items m f = none_lie
  sequence_lies (Some r) misfit items m f = elim r.items as (λ o. All (Lies size) (option_map_or items o misfit)) [ None ↦ m | Some s ↦ f s ]

  missing_lies : (at : Span) (all : List ℕ → Bool) (fs : List Field) → LiesIn size at → All (Lies size) (flat_map (missing_fault at all) fs)
  missing_lies at all [] i = none_lie
  missing_lies at all (f ∷ fs) i =
      both (missing_fault at all f) (flat_map (missing_fault at all) fs)
      (either (is_needed f.need all && not (all f.key)) _ _ (one_lies _ (start_lies at i)) none_lie) (missing_lies at all fs i)

  keyed_lies : (ks : Keys) (above : List ℕ) (all : List ℕ → Bool) (at : Span) (inside : Keys → List Fault)
      → LiesIn size at → ((own : Keys) → All (Lies size) (inside own)) → All (Lies size) (keyed_faults ks above all at inside)
  keyed_lies no_keys above all at inside i f = one_lies _ i
  keyed_lies (free s) above all at inside i f = f (free s)
  keyed_lies (keys others fs) above all at inside i f = both (flat_map (missing_fault at all) fs) (inside (keys others fs)) (missing_lies at all fs i) (f (keys others fs))

  mapping_lies : (r : Option ShapeRule) (above : List ℕ) (all : List ℕ → Bool) (at : Span) (inside : Keys → List Fault)
      → LiesIn size at → ((own : Keys) → All (Lies size) (inside own)) → All (Lies size) (option_map_or (λ o. keyed_faults o.keys_of above all at inside) r [])
  mapping_lies None above all at inside i f = none_lie
  mapping_lies (Some r) above all at inside i f = keyed_lies r.keys_of above all at inside i f

  beside_lies : (other : Option (List ℕ)) (key : Scalar) → LiesIn size key.span → All (Lies size) (beside_faults other key)
  beside_lies None key i = none_lie
  beside_lies (Some other) key i = one_lies _ i

  entry_lies : (st : Standing) (key : Scalar) (value : Shape → List Fault) → LiesIn size key.span → ((s : Shape) → All (Lies size) (value s)) → All (Lies size) (entry_faults st key value)
  entry_lies repeated key value i f = one_lies _ i
  entry_lies (unexpected other) key value i f =
      both (one_fault Unexpected key.span (text_of key)) (beside_faults other key) (one_lies (key_fault Unexpected key.span (text_of key ∷ [])) i) (beside_lies other key i)
  entry_lies ignored key value i f = none_lie
  entry_lies (expected s other) key value i f = both (beside_faults other key) (value s) (beside_lies other key i) (f s)

  mutual
    node_lies : (n : Node) → IsInside size n → (shape : Shape) (null : Bool) (above : List ℕ) → All (Lies size) (faults shape null above n)
    node_lies (scalar s) i shape null above = either (is_null s && null) _ _ none_lie (word_lies (option_and_then (λ r. scalar_fault r.scalars s) (rule shape)) above s.span i)
    node_lies (sequence ns at) i shape null above = sequence_lies (rule shape) _ _ (one_lies _ i.0) (λ s. items_lie ns i.1 s above)
    node_lies (mapping es at) i shape null above =
        mapping_lies (rule (mapping_shape shape (entries es))) above (among (keys_in (entries es))) at (λ ks. entries_faults ks [] (among (keys_in (entries es))) es) i.0
        (λ ks. entries_lie es i.1 ks [] (among (keys_in (entries es))))

    items_lie : (ns : Nodes) → AreInside size ns → (s : Shape) (above : List ℕ) → All (Lies size) (items_faults s above ns)
    items_lie no_nodes i s above = none_lie
    items_lie (item n ns) i s above = both (faults s false above n) (items_faults s above ns) (node_lies n i.0 s false above) (items_lie ns i.1 s above)

    entries_lie : (es : Entries) → EntriesInside size es → (ks : Keys) (seen : List (List ℕ)) (all : List ℕ → Bool) → All (Lies size) (entries_faults ks seen all es)
    entries_lie no_entries i ks seen all = none_lie
    entries_lie (entry k v es) i ks seen all =
        both (entry_faults (standing ks (among seen) all (text_of k)) k (λ s. faults s (takes_null s) (text_of k) v)) (entries_faults ks (seen ++ text_of k ∷ []) all es)
        (entry_lies (standing ks (among seen) all (text_of k)) k (λ s. faults s (takes_null s) (text_of k) v) i.0 (λ s. node_lies v i.1 s (takes_null s) (text_of k)))
        (entries_lie es i.2 ks (seen ++ text_of k ∷ []) all)

  pub root_lies : (shape : Shape) (n : Node) → IsInside size n → All (λ (f : Fault). LiesIn size f.span) (root_faults shape n)
  root_lies shape n i =
      either (is_empty_node n) _ _ (one_lies _ (record { ordered = omega arith; inside = omega arith })) (node_lies n i shape false (codes "file"))
