-- The results of reading, and nodes that are complete with their anchors.
use Rattle.std.specs.Prelude.{ℕ, List, Option, Some, None, option_map, Result, Ok, Err}
use Rattle.al_scalar.specs.Places.{lines_at}
use Rattle.al_scalar.specs.declared.faults.FaultAt.{FaultAt}
use Rattle.al_yaml_tree.specs.Content.{anchor_name}
use Rattle.al_yaml_tree.specs.Node.{Node}
use Rattle.al_yaml_tree.specs.Reading.{Anchor, Reading, Part, gives_with_anchor, ◌>>=◌}
use Rattle.al_yaml_parts.specs.Reads.{State, anchor_at, state_with_anchor, run}

-- the result of reading under the limits
abbrev pub Answer : Type 0 → Type 0
Answer A = Result (A × State) FaultAt

-- what is read next, if there was no fault
abbrev pub then_read : {A B : Type 0} → Answer A → (A → Reading B) → Answer B
then_read (Err e) f = Err e
then_read (Ok p) f = run p.1 (f p.0)

-- An anchor that was read, before its node.
pub record Mark : Type 0 where
  pub name : List ℕ
  pub at : ℕ

abbrev pub anchor_with : Mark → Node → Anchor
anchor_with m n = record { name = m.name; at = m.at; node = n }

-- the anchor of a node that was read is known after it, if it has one
abbrev pub noting : Option Mark → Answer (Part Node) → Answer (Part Node)
noting None o = o
noting (Some m) (Err e) = Err e
noting (Some m) (Ok p) = Ok (p.0, state_with_anchor (anchor_with m p.0.value) p.1)

-- the anchor whose indicator is at an offset
abbrev pub mark_at : List ℕ → ℕ → Mark
mark_at bytes at = record { name = anchor_name (lines_at bytes at); at = at }

abbrev pub mark_of : List ℕ → Option ℕ → Option Mark
mark_of bytes anchor = option_map (mark_at bytes) anchor

-- reads a node, and then adds its anchor, if it has one; the offset is that of the anchor's
-- indicator
abbrev pub completing : List ℕ → Option ℕ → Reading (Part Node) → Reading (Part Node)
completing bytes None r = r
completing bytes (Some at) r = r >>= (λ x. gives_with_anchor (anchor_at bytes at x.value) x)
