-- A property of a node and of all nodes in it holds for the nodes, texts and lists that keys lead to.
use Rattle.std.specs.Prelude.{ℕ, ◌+◌, All, Bool, true, false, not, List, [], ◌∷◌, Option, Some, None, IfSome, find, map, option_map}
use Rattle.std.proofs.Common.{arith, subst}
use Rattle.std.proofs.lemmas.List.{get_or-map, length-map}
use Rattle.std.specs.Bool.{then_some}
use Rattle.std.specs.List.{AllByRecursion, enumerate_from, filter_map}
use Rattle.std.specs.Option.{option_map_or, option_to_list}
use Rattle.al_base.proofs.Elements.{and_some, each_some, found_one, map_or, map_some, to_list}
use Rattle.al_base.specs.Names.{among}
use Rattle.al_base.specs.declared.faults.Span.{Span}
use Rattle.al_scalar.specs.Scalar.{Scalar}
use Rattle.al_yaml_tree.specs.Access.{entries, mapping_in, nodes, scalar_in, sequence_in}
use Rattle.al_yaml_tree.specs.Node.{Each, EachEntry, EachItem}
use Rattle.al_yaml_tree.specs.Node.{Node, Nodes, Entries, scalar, sequence, mapping, no_nodes, item, no_entries, entry}
use Rattle.al_tree.specs.Faults.{is_key, is_null, value_in}
use Rattle.al_tree.specs.Values.{entries_at, entries_in, firsts_by, items_at, items_in, key_at}
use Rattle.al_tree.specs.Values.{text_at_key, text_below, text_in, texts_at, texts_in, value_at, value_below}
use Rattle.al_tree.proofs.Lists.{firsts_kept}

abbrev pub Pair : (Node → Type 0) → Scalar × Node → Type 0
Pair P e = P (scalar e.0) × P e.1

-- P passes from a node to the nodes directly in it, and gives Q for a scalar
pub record AreKept (P : Node → Type 0) (Q : Scalar → Type 0) : Type 0 where
  pub items : (ns : Nodes) (at : Span) → P (sequence ns at) → AllByRecursion P (nodes ns)
  pub pairs : (es : Entries) (at : Span) → P (mapping es at) → AllByRecursion (Pair P) (entries es)
  pub scalars : (s : Scalar) → P (scalar s) → Q s

-- `Each` is such a property.
module _ (S : Scalar → Type 0) (around : Span → Type 0 → Type 0) where
  items_each : (ns : Nodes) → EachItem S around ns → AllByRecursion (Each S around) (nodes ns)
  items_each no_nodes h = tt
  items_each (item n ns) h = (h.0, items_each ns h.1)

  entries_each : (es : Entries) → EachEntry S around es → AllByRecursion (Pair (Each S around)) (entries es)
  entries_each no_entries h = tt
  entries_each (entry k v es) h = ((h.0, h.1), entries_each es h.2)

  pub each_kept : (Q : Scalar → Type 0) → ((X : Type 0) (at : Span) → around at X → X) → ((s : Scalar) → S s → Q s) →
      AreKept (Each S around) Q
  each_kept Q inner of_scalar = record {
    items = λ ns at h. items_each ns (inner (EachItem S around ns) at h);
    pairs = λ es at h. entries_each es (inner (EachEntry S around es) at h);
    scalars = of_scalar;
  }

module _ {P : Node → Type 0} {Q : Scalar → Type 0} (kept : AreKept P Q) where
  pub scalar_kept : (n : Node) → P n → IfSome (scalar_in n) Q
  scalar_kept (scalar s) p = kept.scalars s p
  scalar_kept (sequence ns at) p = tt
  scalar_kept (mapping es at) p = tt

  sequence_kept : (n : Node) → P n → IfSome (sequence_in n) (AllByRecursion P)
  sequence_kept (scalar s) p = tt
  sequence_kept (sequence ns at) p = kept.items ns at p
  sequence_kept (mapping es at) p = tt

  mapping_kept : (n : Node) → P n → IfSome (mapping_in n) (AllByRecursion (Pair P))
  mapping_kept (scalar s) p = tt
  mapping_kept (sequence ns at) p = tt
  mapping_kept (mapping es at) p = kept.pairs es at p

  -- ---- keys and values

  pub key_kept : (k : List ℕ) (n : Node) → P n → IfSome (key_at k n) (λ s. P (scalar s))
  key_kept k n p =
      and_some (AllByRecursion (Pair P)) (λ s. P (scalar s)) (λ es. option_map (λ e. e.0) (find (is_key k) es))
      (λ es q. map_some (Pair P) (λ s. P (scalar s)) (λ e. e.0) (λ e r. r.0) (find (is_key k) es) (found_one (Pair P) (is_key k) es q)) (mapping_in n) (mapping_kept n p)

  pub value_kept : (k : List ℕ) (n : Node) → P n → IfSome (value_at k n) P
  value_kept k n p =
      and_some (AllByRecursion (Pair P)) P (value_in k)
      (λ es q. map_some (Pair P) P (λ e. e.1) (λ e r. r.1) (find (is_key k) es) (found_one (Pair P) (is_key k) es q)) (mapping_in n) (mapping_kept n p)

  pub below_kept : (ks : List (List ℕ)) (n : Node) → P n → IfSome (value_below ks n) P
  below_kept [] n p = p
  below_kept (k ∷ ks) n p = and_some P P (value_below ks) (below_kept ks) (value_at k n) (value_kept k n p)

  -- ---- texts

  unless_null : (null : Bool) (s : Scalar) → Q s → IfSome (then_some (not null) s) Q
  unless_null true s q = tt
  unless_null false s q = q

  pub text_in_kept : (n : Node) → P n → IfSome (text_in n) Q
  text_in_kept n p = and_some Q Q (λ s. then_some (not (is_null s)) s) (λ s q. unless_null (is_null s) s q) (scalar_in n) (scalar_kept n p)

  pub text_kept : (k : List ℕ) (n : Node) → P n → IfSome (text_at_key k n) Q
  text_kept k n p = and_some P Q text_in text_in_kept (value_at k n) (value_kept k n p)

  pub text_below_kept : (ks : List (List ℕ)) (n : Node) → P n → IfSome (text_below ks n) Q
  text_below_kept ks n p = and_some P Q text_in text_in_kept (value_below ks n) (below_kept ks n p)

  texts_or : (o : Option (List Node)) (other : List Scalar) → IfSome o (AllByRecursion P) → AllByRecursion Q other →
      AllByRecursion Q (option_map_or (filter_map text_in) o other)
  texts_or None other p q = q
  texts_or (Some ns) other p q = each_some P Q text_in text_in_kept ns p

  -- ---- lists

  pub entries_in_kept : (n : Node) → P n → AllByRecursion (Pair P) (entries_in n)
  entries_in_kept n p = map_or (AllByRecursion (Pair P)) (Pair P) (firsts_by among []) (firsts_kept among (Pair P) []) (mapping_in n) (mapping_kept n p)

  pub items_in_kept : (n : Node) → P n → AllByRecursion P (items_in n)
  items_in_kept n p = map_or (AllByRecursion P) P (λ ns. ns) (λ ns q. q) (sequence_in n) (sequence_kept n p)

  pub texts_in_kept : (n : Node) → P n → AllByRecursion Q (texts_in n)
  texts_in_kept n p = texts_or (sequence_in n) (option_to_list (text_in n)) (sequence_kept n p) (to_list Q (text_in n) (text_in_kept n p))

  pub entries_kept : (k : List ℕ) (n : Node) → P n → AllByRecursion (Pair P) (entries_at k n)
  entries_kept k n p = map_or P (Pair P) entries_in entries_in_kept (value_at k n) (value_kept k n p)

  pub items_kept : (k : List ℕ) (n : Node) → P n → AllByRecursion P (items_at k n)
  items_kept k n p = map_or P P items_in items_in_kept (value_at k n) (value_kept k n p)

  pub texts_kept : (k : List ℕ) (n : Node) → P n → AllByRecursion Q (texts_at k n)
  texts_kept k n p = map_or P Q texts_in texts_in_kept (value_at k n) (value_kept k n p)

-- numbering the elements of a list
pub numbered_kept : {X : Type 0} (P : X → Type 0) (i : ℕ) (xs : List X) → AllByRecursion P xs → AllByRecursion (λ s. P s.1) (enumerate_from i xs)
numbered_kept P i [] p = tt
numbered_kept P i (x ∷ xs) p = (p.0, numbered_kept P (i + 1) xs p.1)

-- A property of all mapped elements, as one of the elements.
pub all_seen : {X Y : Type 0} (f : X → Y) (P : Y → Type 0) (xs : List X) → All P (map f xs) → All (λ x. P (f x)) xs
all_seen f P xs h i d within = subst P (get_or-map f xs i d (f d) within) (h i (f d) (omega (arith, length-map xs f, within)))
