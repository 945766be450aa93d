-- What holds of each scalar of a tree holds of the scalars of its places.
use Rattle.std.specs.Prelude.{ℕ, ◌+◌, All, Bool, true, false, ◌&&◌, not, List, [], ◌∷◌, ◌++◌, Option, Some, None, IsUtf8}
use Rattle.std.proofs.lemmas.List.Elements.{All-from_recursion}
use Rattle.std.specs.List.{AllByRecursion}
use Rattle.std.specs.Option.{option_map_or}
use Rattle.al_base.proofs.Elements.{each_both, each_either}
use Rattle.al_base.specs.declared.faults.Span.{Span}
use Rattle.al_scalar.specs.Scalar.{Scalar, text_of}
use Rattle.al_yaml_tree.specs.Access.{entries}
use Rattle.al_yaml_tree.proofs.LaidLemmas.{Laid}
use Rattle.al_yaml_tree.specs.Node.{Each, EachEntry, EachItem}
use Rattle.al_yaml_tree.specs.Node.{Node, Nodes, Entries, scalar, sequence, mapping, no_nodes, item, no_entries, entry}
use Rattle.al_yaml_tree.specs.Spans.{LiesAround}
use Rattle.al_tree.specs.Faults.{Standing, expected, mapping_shape, standing}
use Rattle.al_tree.specs.Keys.{keys_in}
use Rattle.al_base.specs.Names.{among}
use Rattle.al_tree.specs.Table.{Keys, rule}
use Rattle.al_tree.specs.declared.table.Shape.{Shape}
use Rattle.al_tree.specs.Files.{shape_of}
use Rattle.al_tree.specs.declared.files.FileKind.{FileKind}
use Rattle.al_check_places.specs.Laws.{Lies, PlacesHaveTexts, PlacesLie}
use Rattle.al_check_places.specs.Places.{Place, entry_places, fits, has_expression, place_at, places_of, places_of_node, places_of_entries, places_of_items}
use Rattle.al_check_places.specs.Places.{rule_or_any, takes_scalars_only}
use Rattle.al_check_places.specs.Ways.{WayStep, is_checked, nth, under}

-- what holds of each scalar of a tree, as it is of the place of one
module _ (S : Scalar → Type 0) (around : Span → Type 0 → Type 0) (inner : (X : Type 0) (at : Span) → around at X → X) (P : Place → Type 0)
    (of_scalar : (k : FileKind) (way : List WayStep) (only : Bool) (s : Scalar) → S s → P (place_at k way only s)) where
  abbrev AllPlaces : List Place → Type 0
  AllPlaces = AllByRecursion P

  some_items : (o : Option Shape) (f : Shape → List Place) → ((s : Shape) → AllPlaces (f s)) → AllPlaces (option_map_or f o [])
  some_items None f h = tt
  some_items (Some s) f h = h s

  some_entry : (st : Standing) (f : Shape → List Place) → ((s : Shape) → AllPlaces (f s)) → AllPlaces (entry_places st f)
  some_entry (expected s other) f h = h s
  some_entry _ f h = tt

  mutual
    pub node_places : (n : Node) → Each S around n → (k : FileKind) (shape : Shape) (is_item : Bool) (way : List WayStep) → AllPlaces (places_of_node k shape is_item way n)
    node_places (scalar s) h k shape is_item way =
        let only = takes_scalars_only (rule_or_any (rule shape)) && not is_item in
        each_either P (has_expression way s && fits (rule_or_any (rule shape)) s && is_checked k way) (place_at k way only s ∷ []) [] (of_scalar k way only s h, tt) tt
    node_places (sequence ns at) h k shape is_item way =
        some_items (rule_or_any (rule shape)).items (λ s. places_of_items k s way 0 ns) (λ s. item_places ns (inner (EachItem S around ns) at h) k s way 0)
    node_places (mapping es at) h k shape is_item way =
        entry_places_hold es (inner (EachEntry S around es) at h) k (rule_or_any (rule (mapping_shape shape (entries es)))).keys_of [] (among (keys_in (entries es))) way

    item_places : (ns : Nodes) → EachItem S around ns → (k : FileKind) (s : Shape) (way : List WayStep) (i : ℕ) → AllPlaces (places_of_items k s way i ns)
    item_places no_nodes h k s way i = tt
    item_places (item n ns) h k s way i =
        each_both P (places_of_node k s true (way ++ nth i ∷ []) n) (places_of_items k s way (i + 1) ns) (node_places n h.0 k s true (way ++ nth i ∷ []))
        (item_places ns h.1 k s way (i + 1))

    entry_places_hold : (es : Entries) → EachEntry S around es → (k : FileKind) (ks : Keys) (seen : List (List ℕ)) (all : List ℕ → Bool) (way : List WayStep)
        → AllPlaces (places_of_entries k ks seen all way es)
    entry_places_hold no_entries h k ks seen all way = tt
    entry_places_hold (entry key v es) h k ks seen all way =
        each_both P (entry_places (standing ks (among seen) all (text_of key)) (λ s. places_of_node k s false (way ++ under (text_of key) ∷ []) v))
        (places_of_entries k ks (seen ++ text_of key ∷ []) all way es)
        (some_entry (standing ks (among seen) all (text_of key)) (λ s. places_of_node k s false (way ++ under (text_of key) ∷ []) v)
        (λ s. node_places v h.1 k s false (way ++ under (text_of key) ∷ [])))
        (entry_places_hold es h.2 k ks (seen ++ text_of key ∷ []) all way)

  pub each_place : (kind : FileKind) (root : Node) → Each S around root → All P (places_of kind root)
  each_place kind root h = All-from_recursion P (places_of kind root) (node_places root h kind (shape_of kind) false [])

pub places_lie : PlacesLie
places_lie kind size root w =
    each_place (Laid 1048576 size) (LiesAround size) (λ X at h. h.1) (λ p. Lies size p.word) (λ k way only s h. record { inside = h.0; placed = h.1 }) kind root w

pub places_have_texts : PlacesHaveTexts
places_have_texts kind root h =
    each_place (λ s. IsUtf8 (text_of s)) (λ at X. X) (λ X at h. h) (λ p. IsUtf8 (text_of p.word)) (λ k way only s h. h) kind root h
