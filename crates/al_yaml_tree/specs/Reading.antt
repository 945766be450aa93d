-- The result of reading nodes: the starts of nodes in reading order, then a value or the first
-- fault. Reading knows the anchors of the nodes that are complete.
use Rattle.std.specs.Prelude.{◌≡◌, ℕ, zero, suc, ◌+◌, List, [], ◌∷◌, ◌++◌, Bool, true, false}
use Rattle.std.specs.Prelude.{nat_lt, if◌then◌else◌, Option, Some, None, Result, Ok, Err}
use Rattle.std.specs.Str.{bytes_eq}
use Rattle.al_base.specs.declared.codes.YamlCode.{YamlCode}
use Rattle.al_base.specs.declared.codes.YamlCode.TheVariants as yaml
use Rattle.al_scalar.specs.Line.{Line}
use Rattle.al_scalar.specs.declared.faults.FaultAt.{FaultAt}
use Rattle.al_base.specs.Spans.{span}
use Rattle.al_base.specs.declared.faults.Span.{Span}
use Rattle.al_yaml_tree.specs.Node.{Node, nodes_in, text_size, levels_in}

-- A start of so many nodes at an offset: one, but two for a block mapping and its first key, and
-- all those in its node for an alias, which also counts the bytes of their texts. The depth is that
-- of the deepest collection that starts there, 0 if none does; alias says whether it is an alias's.
pub record Start : Type 0 where
  pub at : ℕ
  pub nodes : ℕ
  pub text : ℕ
  pub depth : ℕ
  pub alias : Bool

abbrev pub HaveNoAlias : List Start → Type 0
HaveNoAlias [] = Unit {0}
HaveNoAlias (s ∷ ss) = (s.alias ≡ false) × HaveNoAlias ss

-- An anchored node (6.9.2) that is complete, and the offset of its indicator &.
pub record Anchor : Type 0 where
  pub name : List ℕ
  pub at : ℕ
  pub node : Node

-- The anchors of the nodes that are complete: by its name, the one that an alias refers to (7.1).
abbrev pub KnownAnchors : Type 0
KnownAnchors = List ℕ → Option Anchor

-- no anchor
abbrev pub no_anchors : KnownAnchors
no_anchors name = None

pub record Outcome (A : Type 0) : Type 0 where
  pub starts : List Start
  pub answer : Result A FaultAt
  pub known : KnownAnchors

abbrev pub Reading : Type 0 → Type 0
Reading A = KnownAnchors → Outcome A

abbrev pub gives : {A : Type 0} → A → Reading A
gives x known = record { starts = []; answer = Ok x; known = known }

abbrev pub fails : {A : Type 0} → YamlCode → ℕ → Reading A
fails code at known =
    record { starts = []; answer = Err (record { code = code; at = at }); known = known }

abbrev pub of_result : {A : Type 0} → Result A FaultAt → Reading A
of_result r known = record { starts = []; answer = r; known = known }

-- what is read after starts
abbrev pub after : {A : Type 0} → List Start → Outcome A → Outcome A
after ss o = record { starts = ss ++ o.starts; answer = o.answer; known = o.known }

-- what is read next, if there was no fault
abbrev pub next : {A B : Type 0} → Outcome A → (A → Reading B) → Outcome B
next o f = elim o.answer [
  | Err e ↦ record { starts = o.starts; answer = Err e; known = o.known }
  | Ok x ↦ after o.starts (f x o.known)
]

infixl 10 ◌>>=◌
abbrev pub ◌>>=◌ : {A B : Type 0} → Reading A → (A → Reading B) → Reading B
◌>>=◌ r f known = next (r known) f

-- a start, and then what is read there
abbrev pub with_start : {A : Type 0} → Start → Reading A → Reading A
with_start s r known = after (s ∷ []) (r known)

-- a start of so many nodes, and of a collection at this depth
abbrev pub start_of : ℕ → ℕ → ℕ → Start
start_of at nodes depth = record { at = at; nodes = nodes; text = 0; depth = depth; alias = false }

-- a scalar, or an empty node
abbrev pub starting_scalar : {A : Type 0} → ℕ → Reading A → Reading A
starting_scalar at r = with_start (start_of at 1 0) r

-- of two anchors with the same name, the one whose & is later: an alias refers to the latest (7.1)
abbrev pub later_of : Anchor → Option Anchor → Option Anchor
later_of a None = Some a
later_of a (Some b) = if nat_lt a.at b.at then Some b else Some a

-- one more anchor, which may have the name of an earlier one (7.1)
abbrev pub with_anchor : Anchor → KnownAnchors → KnownAnchors
with_anchor a known name = if bytes_eq a.name name then later_of a (known name) else known name

-- An anchor is known once its node is complete (6.9.2).
abbrev pub gives_with_anchor : {A : Type 0} → Anchor → A → Reading A
gives_with_anchor a x known = record { starts = []; answer = Ok x; known = with_anchor a known }

-- the depth of the deepest collection in a node whose own depth is this, 0 if it is a scalar
abbrev pub deepest : ℕ → ℕ → ℕ
deepest depth zero = 0
deepest depth (suc levels) = depth + levels

-- All nodes in the node that an alias refers to (7.1) start at its indicator *, and their depths
-- are counted from there.
abbrev pub alias_start : ℕ → ℕ → Node → Start
alias_start at depth n =
    record {
      at = at;
      nodes = nodes_in n;
      text = text_size n;
      depth = deepest depth (levels_in n);
      alias = true;
    }

-- an alias of an anchor that was found, or of none (7.1)
abbrev pub alias_of : Option Anchor → ℕ → ℕ → Reading Node
alias_of None at depth = fails yaml.UnknownAlias at
alias_of (Some a) at depth = with_start (alias_start at depth a.node) (gives a.node)

-- An alias (7.1) refers to the node of its anchor, and has the spans of that node.
abbrev pub alias : List ℕ → ℕ → ℕ → Reading Node
alias name at depth known = alias_of (known name) at depth known

-- What was read, where its written form ends, and the lines left.
pub record Part (A : Type 0) : Type 0 where
  pub value : A
  pub end : ℕ
  pub left : List Line

abbrev pub part : {A : Type 0} → A → ℕ → List Line → Part A
part value end left = record { value = value; end = end; left = left }

-- a collection from its start to its end
abbrev pub with_span : {A : Type 0} → (A → Span → Node) → ℕ → Reading (Part A) → Reading (Part Node)
with_span f at r = r >>= (λ p. gives (part (f p.value (span at p.end)) p.end p.left))
