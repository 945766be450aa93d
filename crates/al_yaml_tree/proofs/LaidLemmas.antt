-- Properties of each node in a node, and nodes within a file in any order.
use Rattle.std.proofs.Common.{ℕ, ◌≤◌, arith}
use Rattle.al_base.specs.Spans.{LiesIn}
use Rattle.al_base.specs.declared.faults.Span.{Span}
use Rattle.al_scalar.specs.Offsets.{IsFrom, IsPlaced}
use Rattle.al_scalar.specs.Scalar.{Scalar}
use Rattle.al_scalar.proofs.Origins.{from-placed}
use Rattle.al_scalar.proofs.PlacedLemmas.{placed-wider}
use Rattle.al_yaml_tree.specs.Node.{Node, Nodes, Entries, scalar, sequence, mapping, no_nodes, item, no_entries, entry, span_of, with_item, with_entry}
use Rattle.al_yaml_tree.specs.Node.{Each, EachItem, EachEntry}
use Rattle.al_yaml_tree.specs.Spans.{IsInside, AreFrom, IsLaidIn, LiesAround}

-- ---- appending an item or an entry

module _ (P : Scalar → Type 0) (around : Span → Type 0 → Type 0) where
  pub each-item : (ns : Nodes) (n : Node) → EachItem P around ns → Each P around n → EachItem P around (with_item ns n)
  each-item no_nodes n h x = (x, tt)
  each-item (item m ms) n h x = (h.0, each-item ms n h.1 x)

  pub each-entry : (es : Entries) (k : Scalar) (v : Node) → EachEntry P around es → P k → Each P around v
      → EachEntry P around (with_entry es k v)
  each-entry no_entries k v h x y = (x, y, tt)
  each-entry (entry l w es) k v h x y = (h.0, h.1, each-entry es k v h.2 x y)

-- ---- implications

module _ (P Q : Scalar → Type 0) (outer inner : Span → Type 0 → Type 0) (of_scalar : (s : Scalar) → P s → Q s)
    (of_collection : (A B : Type 0) (at : Span) → (A → B) → outer at A → inner at B) where
  mutual
    pub each-follows : (n : Node) → Each P outer n → Each Q inner n
    each-follows (scalar s) h = of_scalar s h
    each-follows (sequence ns at) h = of_collection (EachItem P outer ns) (EachItem Q inner ns) at (items-follow ns) h
    each-follows (mapping es at) h = of_collection (EachEntry P outer es) (EachEntry Q inner es) at (entries-follow es) h

    items-follow : (ns : Nodes) → EachItem P outer ns → EachItem Q inner ns
    items-follow no_nodes h = tt
    items-follow (item n ns) h = (each-follows n h.0, items-follow ns h.1)

    entries-follow : (es : Entries) → EachEntry P outer es → EachEntry Q inner es
    entries-follow no_entries h = tt
    entries-follow (entry k v es) h = (of_scalar k h.0, each-follows v h.1, entries-follow es h.2)

-- ---- nodes within a file

abbrev pub Laid : ℕ → ℕ → Scalar → Type 0
Laid most size s = LiesIn size s.span × IsPlaced most s

module _ (most size : ℕ) where
  pub laid-span : (n : Node) → IsLaidIn most size n → LiesIn size (span_of n)
  laid-span (scalar s) h = h.0
  laid-span (sequence ns at) h = h.0
  laid-span (mapping es at) h = h.0

  pub laid-inside : (n : Node) → IsLaidIn most size n → IsInside size n
  laid-inside = each-follows (Laid most size) (λ s. LiesIn size s.span) (LiesAround size) (LiesAround size)
      (λ s h. h.0) (λ A B at f h. (h.0, f h.1))

pub laid-from : (size : ℕ) (n : Node) → IsLaidIn size size n → AreFrom size n
laid-from size = each-follows (Laid size size) (IsFrom size) (LiesAround size) (λ at inner. inner)
    (λ s h. from-placed size size s (omega arith) h.0.inside h.1) (λ A B at f h. f h.1)

-- ---- a larger file

lies-wider : (size size' : ℕ) (at : Span) → size ≤ size' → LiesIn size at → LiesIn size' at
lies-wider size size' at a h = let b = h.inside in record { ordered = h.ordered; inside = omega (arith, a, b) }

pub laid-wider : (most size most' size' : ℕ) (a : most ≤ most') (b : size ≤ size') (n : Node) → IsLaidIn most size n → IsLaidIn most' size' n
laid-wider most size most' size' a b = each-follows (Laid most size) (Laid most' size') (LiesAround size) (LiesAround size')
    (λ s h. (lies-wider size size' s.span b h.0, placed-wider most most' s a h.1)) (λ A B at f h. (lies-wider size size' at b h.0, f h.1))
