-- How contracts speak of open flow collections.
use Rattle.std.specs.Prelude.{◌≡◌, ℕ, suc, ◌+◌, ◌<◌, ◌≤◌, List, [], ◌∷◌, length, map, Option, Some}
use Rattle.std.specs.Prelude.{None, Result, Ok, Err, false}
use Rattle.al_scalar.specs.Line as line
use Rattle.al_scalar.specs.ReadScalar.{read_of}
use Rattle.al_scalar.specs.Places.{lines_at, text_at}
use Rattle.al_base.specs.Limits.{deepest_collection}
use Rattle.al_base.specs.Spans.{span}
use Rattle.al_scalar.specs.declared.scalars.ScalarRead.{ScalarRead}
use Rattle.al_yaml_tree.specs.Node as tree
use Rattle.al_yaml_tree.specs.Reading.{Reading, Part, part}
use Rattle.al_yaml_tree.specs.Flow.{CollectionReader}
use Rattle.al_yaml_tree.specs.Flow as flow
use Rattle.al_yaml.specs.Private.Frames as frames
use Rattle.al_yaml.specs.Private.Frames.{open_rest, waiting_rest}
use Rattle.al_yaml_parts.specs.Answers.{Answer, then_read, noting}
use Rattle.al_yaml_parts.specs.Reads.{State, run, FailsWith}
use Rattle.al_yaml_tree.specs.View.{view, entry_view, nodes_of, entries_of}
use Rattle.al_yaml_parts.specs.FlowReads.{IsBracket}
use Rattle.al_yaml_parts.specs.Answers.{mark_of}
use Rattle.al_yaml_parts.specs.declared.faults.ReadError.{ReadError}
use Rattle.al_yaml_parts.specs.declared.frames.Open.{Open}
use Rattle.al_yaml_parts.specs.declared.frames.Open.TheVariants as open_code
use Rattle.al_yaml_parts.specs.declared.frames.FlowFrame.{FlowFrame}
use Rattle.al_yaml_parts.specs.declared.part.Part as code
use Rattle.al_yaml.specs.declared.flow_items.After.{After}
use Rattle.al_yaml.specs.declared.flow_items.After.TheVariants as after
use Rattle.al_yaml.specs.declared.flow_items.FlowPlace.{FlowPlace}
use Rattle.al_yaml.specs.declared.flow_items.FlowStep.{FlowStep}
use Rattle.al_yaml.specs.declared.flow.OpenFlow.{OpenFlow}
use Rattle.al_yaml_parts.specs.Stacks.{OpenCollections}
use Rattle.al_yaml.specs.declared.flow_items.FlowStep.TheVariants as step

abbrev pub open_of : Open → frames.Open
open_of (open_code.Items v) = frames.items (nodes_of (map view v.items))
open_of (open_code.Entries m) = frames.entries (entries_of (map entry_view m.entries.items))

-- what waits in a mapping for the collection whose bracket is at an offset
abbrev pub mapping_waiting : List ℕ → ℕ → tree.Entries → Option ScalarRead → frames.Waiting
mapping_waiting bytes at es (Some read) = frames.value es (read_of bytes read)
mapping_waiting bytes at es None = frames.key at

-- what waits for it in any collection
abbrev pub waiting_of : List ℕ → ℕ → Open → frames.Waiting
waiting_of bytes at (open_code.Items v) = frames.item (nodes_of (map view v.items))
waiting_of bytes at (open_code.Entries m) =
    mapping_waiting bytes at (entries_of (map entry_view m.entries.items)) m.waits

abbrev pub frame_of : List ℕ → FlowFrame → frames.Frame
frame_of bytes f =
    record {
      opening = f.opening;
      mark = mark_of bytes f.inner.anchor;
      waiting = waiting_of bytes f.inner.at f.has;
    }

-- the collection that was read from its bracket up to the end of its closer
abbrev pub closed_of : ℕ → frames.Open → ℕ → tree.Node
closed_of opening (frames.items ns) end = tree.sequence ns (span opening end)
closed_of opening (frames.entries es) end = tree.mapping es (span opening end)

-- the character that closes a collection
abbrev pub closer_of : frames.Open → ℕ
closer_of (frames.items ns) = 93
closer_of (frames.entries es) = 125

-- ---- a step of an open collection, and what comes after a node in it

abbrev pub after_of : List ℕ → After → frames.After
after_of bytes (after.GoesOn next) = frames.goes_on (lines_at bytes next)
after_of bytes (after.Closes next) = frames.closes next (lines_at bytes next)

-- reading goes on in a collection after a comma, or ends with its closer
abbrev pub GoesOn : List ℕ → ℕ → ℕ → (CollectionReader → ℕ → Answer (Part tree.Node)) → frames.Open
    → After → State → Type 0
GoesOn bytes depth opening now has (after.GoesOn at) s =
    (c : CollectionReader) (turns : ℕ)
    → now c turns ≡ run s (open_rest c turns depth opening has (lines_at bytes at))
GoesOn bytes depth opening now has (after.Closes end) s =
    (c : CollectionReader) (turns : ℕ)
    → now c turns ≡ Ok (part (closed_of opening has end) end (lines_at bytes end), s)

-- what a collection is from its bracket on, with nothing read in it
abbrev pub Opens : List ℕ → ℕ → ℕ → State → frames.Open → After → State → Type 0
Opens bytes depth at s has (after.GoesOn inside) t =
    (bound : ℕ) → run s (flow.flow_collection (suc bound) depth (lines_at bytes at))
    ≡ run t (open_rest (flow.flow_collection bound) (suc bound) (depth + 1) at has
    (lines_at bytes inside))
Opens bytes depth at s has (after.Closes end) t = ⊥

abbrev pub Steps : List ℕ → ℕ → ℕ → (CollectionReader → ℕ → Reading (Part tree.Node)) → State → Open
    → Result FlowStep ReadError → State → Type 0
Steps bytes depth opening reading before has (Ok (step.AfterNode next)) s =
    GoesOn bytes depth opening (λ c turns. run before (reading c (suc turns))) (open_of has) next s
Steps bytes depth opening reading before has (Ok (step.Opens b)) s =
    (c : CollectionReader) (turns : ℕ) → run before (reading c (suc turns))
    ≡ then_read (noting (mark_of bytes b.anchor) (run s (c depth (lines_at bytes b.at))))
    (waiting_rest c turns depth opening (waiting_of bytes b.at has))
Steps bytes depth opening reading before has (Err e) s =
    (c : CollectionReader) (turns : ℕ) → FailsWith (reading c (suc turns)) before e

abbrev pub Resumes : List ℕ → ℕ → ℕ → frames.Waiting → Part tree.Node → State → frames.Open
    → Result After ReadError → Type 0
Resumes bytes depth opening w x s has (Ok next) =
    GoesOn bytes depth opening (λ c turns. run s (waiting_rest c turns depth opening w x)) has next
    s
Resumes bytes depth opening w x s has (Err e) =
    (c : CollectionReader) (turns : ℕ) → FailsWith (waiting_rest c turns depth opening w x) s e

-- ---- where they lie

-- the offset from which on is read, or after the closer
abbrev pub after_at : After → ℕ
after_at (after.GoesOn at) = at
after_at (after.Closes end) = end

-- what comes after a node that is in its collection lies after an offset
abbrev pub IsPut : ℕ → ℕ → After → Type 0
IsPut size from next = (from < after_at next) × (after_at next ≤ size)

abbrev pub IsStep : List ℕ → ℕ → FlowStep → Type 0
IsStep bytes at (step.AfterNode next) = IsPut (length bytes) at next
IsStep bytes at (step.Opens b) = IsBracket bytes at b.at

-- an open collection is read in the file
pub record IsOpenIn (size start at : ℕ) : Type 0 where
  pub inside : at ≤ size
  pub opening : start ≤ size

-- a mapping is read at an entry, not at its closing bracket
pub record IsEntryIn (bytes : List ℕ) (p : FlowPlace) : Type 0 where
  pub place : IsOpenIn (length bytes) p.opening p.at
  pub solid : false ≡ line.is_empty (text_at bytes p.at)
  pub other : false ≡ line.begins 125 (text_at bytes p.at)

-- a collection that was read goes to the one that waited for it
pub record IsPutIn (size : ℕ) (f : FlowFrame) (p : code.Part) : Type 0 where
  pub inside : p.next ≤ size
  pub opening : f.opening ≤ size
  pub at : f.inner.at ≤ size

-- the part that is made of a collection
pub record IsMadeOf (opening : ℕ) (has : frames.Open) (past : ℕ) (p : code.Part) : Type 0 where
  pub node : view p.node ≡ closed_of opening has past
  pub end : p.end ≡ past
  pub next : p.next ≡ past

-- the collections that are open begin in the file
abbrev pub AreOpen : ℕ → List FlowFrame → Type 0
AreOpen size [] = Unit {0}
AreOpen size (f ∷ fs) = (f.opening < size) × (f.inner.at < size) × AreOpen size fs

-- a collection that may begin here, so deep
pub record IsCollectionAt (bytes : List ℕ) (now : OpenCollections) (deep at : ℕ) : Type 0 where
  pub bracket : IsBracket bytes at at
  pub depth : deep ≤ deepest_collection + 1
  pub outside : now.flows ≡ []
  pub room : length now.blocks ≤ deep

-- the innermost collection is read from here on; one in it may be so deep
pub record IsOpenHere (size : ℕ) (now : OpenCollections) (p : FlowPlace) : Type 0 where
  pub at : p.at ≤ size
  pub opening : p.opening < size
  pub outer : AreOpen size now.flows
  pub depth : p.depth ≤ deepest_collection + 1
  pub room : length now.flows + length now.blocks < p.depth

-- the collection in which reading goes on, after an offset
pub record IsOn (size start from : ℕ) (now : OpenFlow) : Type 0 where
  pub opening : now.opening ≡ start
  pub next : IsPut size from now.next

-- where reading goes on in an open collection or in one that was opened in it, and what is open
-- then
pub record IsFurther (size : ℕ) (p : FlowPlace) (old new : OpenCollections)
    (now : OpenFlow) : Type 0 where
  pub blocks : new.blocks ≡ old.blocks
  pub outer : AreOpen size new.flows
  pub room : length new.flows + p.depth ≤ length old.flows + (deepest_collection + 1)
  pub more : length new.flows ≤ length old.flows + 1
  pub opening : now.opening < size
  pub next : IsPut size p.at now.next
