-- The spans of nodes: each in the node around it and after the node before it, and all of them in
-- the file.
use Rattle.std.specs.Prelude.{ℕ, ◌≤◌}
use Rattle.al_scalar.specs.Offsets.{IsFrom, IsPlaced}
use Rattle.al_scalar.specs.Scalar.{Scalar}
use Rattle.al_base.specs.Spans.{LiesIn}
use Rattle.al_base.specs.declared.faults.Span.{Span}
use Rattle.al_base.specs.Limits.{largest_file}
use Rattle.al_yaml_tree.specs.Node.{Node, Nodes, Entries, scalar, sequence, mapping, no_nodes, item}
use Rattle.al_yaml_tree.specs.Node.{no_entries, entry, span_of}
use Rattle.al_yaml_tree.specs.Node.{Each, EachItem, EachEntry}

-- a span between two offsets
pub record IsBetween (low high : ℕ) (at : Span) : Type 0 where
  pub from : low ≤ at.start
  pub ordered : at.start ≤ at.end
  pub to : at.end ≤ high

-- A scalar lies between two offsets of a file of so many bytes, and its text in its own span, but
-- the line feeds at a block scalar's end may come from after it.
abbrev pub ScalarPlacedIn : ℕ → ℕ → ℕ → Scalar → Type 0
ScalarPlacedIn size low high s = IsBetween low high s.span × IsPlaced size s

-- A node lies between two offsets of a file of so many bytes, and what is in it lies in its own
-- span, in order.
abbrev mutual
  pub IsPlacedIn : ℕ → ℕ → ℕ → Node → Type 0
  IsPlacedIn size low high (scalar s) = ScalarPlacedIn size low high s
  IsPlacedIn size low high (sequence ns at) =
      IsBetween low high at × ArePlacedIn size at.start at.end ns
  IsPlacedIn size low high (mapping es at) =
      IsBetween low high at × EntriesPlacedIn size at.start at.end es

  -- each item begins where the one before it has ended, or later
  pub ArePlacedIn : ℕ → ℕ → ℕ → Nodes → Type 0
  ArePlacedIn size low high no_nodes = Unit {0}
  ArePlacedIn size low high (item n ns) =
      IsPlacedIn size low high n × ArePlacedIn size (span_of n).end high ns

  -- likewise each value after its key, and each key after the value before it
  pub EntriesPlacedIn : ℕ → ℕ → ℕ → Entries → Type 0
  EntriesPlacedIn size low high no_entries = Unit {0}
  EntriesPlacedIn size low high (entry k v es) =
      ScalarPlacedIn size low high k × IsPlacedIn size k.span.end high v
      × EntriesPlacedIn size (span_of v).end high es

-- each span of a node lies in a file of this many bytes

abbrev pub LiesAround : ℕ → Span → Type 0 → Type 0
LiesAround size at inner = LiesIn size at × inner

abbrev pub IsInside : ℕ → Node → Type 0
IsInside size = Each (λ s. LiesIn size s.span) (LiesAround size)

abbrev pub AreInside : ℕ → Nodes → Type 0
AreInside size = EachItem (λ s. LiesIn size s.span) (LiesAround size)

abbrev pub EntriesInside : ℕ → Entries → Type 0
EntriesInside size = EachEntry (λ s. LiesIn size s.span) (LiesAround size)

-- each byte of each scalar's text, keys too, comes from a file of so many bytes

abbrev pub AreFrom : ℕ → Node → Type 0
AreFrom size = Each (IsFrom size) (λ at inner. inner)

-- The same without an order, as an alias refers to a node elsewhere in the file: each span of a
-- node lies in the first size bytes of a file of so many, and each scalar's text relates to its
-- span as above.
abbrev pub IsLaidIn : ℕ → ℕ → Node → Type 0
IsLaidIn most size = Each (λ s. LiesIn size s.span × IsPlaced most s) (LiesAround size)

-- the same of a file of the greatest size

abbrev pub IsLaid : ℕ → Node → Type 0
IsLaid size = IsLaidIn largest_file size

abbrev pub AreLaid : ℕ → Nodes → Type 0
AreLaid size = EachItem (λ s. LiesIn size s.span × IsPlaced largest_file s) (LiesAround size)

abbrev pub EntriesLaid : ℕ → Entries → Type 0
EntriesLaid size = EachEntry (λ s. LiesIn size s.span × IsPlaced largest_file s) (LiesAround size)
