-- Reading with its limits, from one state to the next.
use Rattle.std.specs.Prelude.{◌≡◌, ℕ, ◌+◌, ◌≤◌, List, length, Bool, false, nat_lt, Option, Some}
use Rattle.std.specs.Prelude.{None, option_map, Result, Ok, Err}
use Rattle.std.specs.BTreeMap.{get_by}
use Rattle.std.specs.Cmp.Lexicographic.{slice_cmp}
use Rattle.std.specs.Ordering.{nat_cmp}
use Rattle.al_scalar.specs.Places.{lines_at}
use Rattle.al_scalar.specs.declared.faults.FaultAt.{FaultAt}
use Rattle.al_yaml_tree.specs.Node as tree
use Rattle.al_scalar.specs.Line.{Line, start}
use Rattle.al_yaml_tree.specs.Content.{anchor_name, after_name}
use Rattle.al_yaml_tree.specs.Reading.{Anchor, KnownAnchors, no_anchors, with_anchor, Outcome}
use Rattle.al_yaml_tree.specs.Reading.{Reading, Part}
use Rattle.al_yaml_tree.specs.Reading.{part, gives, alias, ◌>>=◌}
use Rattle.al_yaml_tree.specs.Limits.{within_limits, nodes_listed, text_listed}
use Rattle.al_yaml_tree.specs.View.{view}
use Rattle.al_yaml_parts.specs.declared.anchors.AnchoredNode.{AnchoredNode}
use Rattle.al_yaml_parts.specs.declared.anchors.Anchors.{Anchors}
use Rattle.al_yaml_parts.specs.declared.faults.ReadError.{ReadError}
use Rattle.al_yaml_parts.specs.declared.faults.ReadError.TheVariants as stop
use Rattle.al_yaml_parts.specs.declared.limits.State as state
use Rattle.al_yaml_parts.specs.declared.part.Part as code

-- What was read so far: the number of nodes, the number of bytes of text of aliases' nodes, and the
-- anchors.
pub record State : Type 0 where
  pub nodes : ℕ
  pub text : ℕ
  pub known : KnownAnchors

abbrev pub with_state : {A : Type 0} → State → Result A FaultAt → Result (A × State) FaultAt
with_state s (Err e) = Err e
with_state s (Ok x) = Ok (x, s)

abbrev pub state_after : {A : Type 0} → State → Outcome A → State
state_after s o =
    record {
      nodes = s.nodes + nodes_listed o.starts;
      text = s.text + text_listed o.starts;
      known = o.known;
    }

abbrev pub run_outcome : {A : Type 0} → State → Outcome A → Result (A × State) FaultAt
run_outcome s o = with_state (state_after s o) (within_limits s.nodes s.text o)

-- What is read from a state on, with the state after it, or the fault or broken limit that is met
-- first.
unfoldable pub run : {A : Type 0} → State → Reading A → Result (A × State) FaultAt
run s r = run_outcome s (r s.known)

-- the state at a file's start
abbrev pub at_start : State
at_start = record { nodes = 0; text = 0; known = no_anchors }

-- whether an anchor is after an offset
abbrev pub is_later : ℕ → Option Anchor → Bool
is_later at None = false
is_later at (Some a) = nat_lt at a.at

-- the state with so many more nodes
abbrev pub with_nodes : ℕ → State → State
with_nodes more s = record { nodes = s.nodes + more; text = s.text; known = s.known }

-- the state with one more anchor
abbrev pub state_with_anchor : Anchor → State → State
state_with_anchor a s = record { nodes = s.nodes; text = s.text; known = with_anchor a s.known }

abbrev pub anchor_seen : List ℕ → AnchoredNode → Anchor
anchor_seen name a = record { name = name; at = a.at; node = view a.node.value }

unfoldable pub last_anchor : Anchors → List ℕ → Option AnchoredNode
last_anchor anchors name = get_by (λ k. slice_cmp nat_cmp name k.items) anchors.latest

-- the anchors that the code knows: of those with the same name the last
abbrev pub anchors_view : Anchors → KnownAnchors
anchors_view anchors name = option_map (anchor_seen name) (last_anchor anchors name)

abbrev pub state_of : state.State → State
state_of s = record { nodes = s.nodes; text = s.text; known = anchors_view s.anchors }

-- the anchor of a node, whose indicator is at an offset
abbrev pub anchor_at : List ℕ → ℕ → tree.Node → Anchor
anchor_at bytes at n = record { name = anchor_name (lines_at bytes at); at = at; node = n }

abbrev pub state_with_anchor_at : List ℕ → Option ℕ → tree.Node → State → State
state_with_anchor_at bytes None n s = s
state_with_anchor_at bytes (Some at) n s = state_with_anchor (anchor_at bytes at n) s

-- reading ends with a fault, unless memory runs out
abbrev pub FailsWith : {B : Type 0} → Reading B → State → ReadError → Type 0
FailsWith reading before (stop.Fault f) = run before reading ≡ Err f
FailsWith reading before stop.Memory = Unit {0}

-- what was read in the bytes, with the state before and after, is what the definition reads
abbrev pub IsRead : {A B : Type 0} → (A → B) → Reading B → State → Result A ReadError
    → State → Type 0
IsRead seen reading before (Ok x) after = run before reading ≡ Ok (seen x, after)
IsRead seen reading before (Err e) after = FailsWith reading before e

abbrev pub part_of : List ℕ → code.Part → Part tree.Node
part_of bytes p = part (view p.node) p.end (lines_at bytes p.next)

-- the next offset to read isn't before this one; it and the end of what was read are in the file
pub record IsPartAfter (bytes : List ℕ) (at : ℕ) (p : code.Part) : Type 0 where
  pub from : at ≤ p.next
  pub inside : p.next ≤ length bytes
  pub end : p.end ≤ length bytes

-- the node that the alias at the beginning of the lines refers to, and where the alias ends
abbrev pub alias_part : ℕ → List Line → Reading (Part tree.Node)
alias_part depth ls =
    alias (anchor_name ls) (start ls) depth
    >>= (λ n. gives (part n (start (after_name ls)) (after_name ls)))

-- the definition's result is this fault, unless memory runs out
abbrev pub Refuses : {B : Type 0} → Result B FaultAt → ReadError → Type 0
Refuses asked (stop.Fault f) = asked ≡ Err f
Refuses asked stop.Memory = Unit {0}

abbrev pub Answers : {A B : Type 0} → (A → B) → Result B FaultAt → Result A ReadError → Type 0
Answers seen asked (Ok x) = asked ≡ Ok (seen x)
Answers seen asked (Err e) = Refuses asked e

-- a fault is in the file, or at its end
abbrev pub IsStopInside : ℕ → ReadError → Type 0
IsStopInside size (stop.Fault f) = f.at ≤ size
IsStopInside size stop.Memory = Unit {0}
