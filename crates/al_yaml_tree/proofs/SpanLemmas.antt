-- The spans of nodes that are read one after another.
use Rattle.std.proofs.Common.{ℕ, ◌≤◌, arith}
use Rattle.al_base.specs.declared.faults.Span.{Span}
use Rattle.al_scalar.proofs.PlacedLemmas.{placed-wider}
use Rattle.al_scalar.specs.Scalar.{Scalar}
use Rattle.al_yaml_tree.specs.Node.{Node, Nodes, Entries, scalar, sequence, mapping, no_nodes, item, no_entries, entry, span_of, with_item, with_entry}
use Rattle.al_yaml_tree.specs.Spans.{IsBetween, IsPlacedIn, ArePlacedIn, EntriesPlacedIn, ScalarPlacedIn}

-- ---- wider bounds, in a larger file

module _ (size more : ℕ) (grown : size ≤ more) where
  between-wider : (low high low' high' : ℕ) (at : Span) → low' ≤ low → high ≤ high' → IsBetween low high at → IsBetween low' high' at
  between-wider low high low' high' at a b h = record { from = omega (arith, h.from); ordered = h.ordered; to = omega (arith, h.to) }

  scalar-wider : (low high low' high' : ℕ) (s : Scalar) → low' ≤ low → high ≤ high' → ScalarPlacedIn size low high s → ScalarPlacedIn more low' high' s
  scalar-wider low high low' high' s a b h = (between-wider low high low' high' s.span a b h.0, placed-wider size more s grown h.1)

  mutual
    pub placed-more : (low high low' high' : ℕ) (n : Node) → low' ≤ low → high ≤ high' → IsPlacedIn size low high n → IsPlacedIn more low' high' n
    placed-more low high low' high' (scalar s) a b h = scalar-wider low high low' high' s a b h
    placed-more low high low' high' (sequence ns at) a b h = (between-wider low high low' high' at a b h.0, items-wider at.start at.end at.end ns (omega arith) h.1)
    placed-more low high low' high' (mapping es at) a b h = (between-wider low high low' high' at a b h.0, entries-wider at.start at.end at.end es (omega arith) h.1)

    pub items-wider : (low high high' : ℕ) (ns : Nodes) → high ≤ high' → ArePlacedIn size low high ns → ArePlacedIn more low high' ns
    items-wider low high high' no_nodes b h = tt
    items-wider low high high' (item n ns) b h = (placed-more low high low high' n (omega arith) b h.0, items-wider (span_of n).end high high' ns b h.1)

    pub entries-wider : (low high high' : ℕ) (es : Entries) → high ≤ high' → EntriesPlacedIn size low high es → EntriesPlacedIn more low high' es
    entries-wider low high high' no_entries b h = tt
    entries-wider low high high' (entry k v es) b h = (
      scalar-wider low high low high' k (omega arith) b h.0,
      placed-more k.span.end high k.span.end high' v (omega arith) b h.1,
      entries-wider (span_of v).end high high' es b h.2,
    )

module _ (size : ℕ) where
  bounds_in : (low high : ℕ) (n : Node) → IsPlacedIn size low high n → IsBetween low high (span_of n)
  bounds_in low high (scalar s) h = h.0
  bounds_in low high (sequence ns at) h = h.0
  bounds_in low high (mapping es at) h = h.0

  pub wider_in : (low high low' high' : ℕ) (n : Node) → low' ≤ low → high ≤ high' → IsPlacedIn size low high n → IsPlacedIn size low' high' n
  wider_in = placed-more size size (omega arith)

  -- ---- a node appended to those that end before an offset

  pub past-item : (low at high : ℕ) (ns : Nodes) (n : Node) → low ≤ at → at ≤ high → ArePlacedIn size low at ns → IsPlacedIn size at high n → ArePlacedIn size low high (with_item ns n)
  past-item low at high no_nodes n a b h x = (wider_in at high low high n a (omega arith) x, tt)
  past-item low at high (item m ms) n a b h x = (wider_in low at low high m (omega arith) b h.0, past-item (span_of m).end at high ms n (bounds_in low at m h.0).to b h.1 x)

  pub past-entry : (low at high : ℕ) (es : Entries) (k : Scalar) (v : Node) → low ≤ at → at ≤ high → EntriesPlacedIn size low at es → ScalarPlacedIn size at high k
      → IsPlacedIn size k.span.end high v
      → EntriesPlacedIn size low high (with_entry es k v)
  past-entry low at high no_entries k v a b h x y = (wider_in at high low high (scalar k) a (omega arith) x, y, tt)
  past-entry low at high (entry l w es) k v a b h x y = (
    wider_in low at low high (scalar l) (omega arith) b h.0,
    wider_in l.span.end at l.span.end high w (omega arith) b h.1,
    past-entry (span_of w).end at high es k v (bounds_in l.span.end at w h.1).to b h.2 x y,
  )
