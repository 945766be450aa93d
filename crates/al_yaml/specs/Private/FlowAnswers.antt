-- What the whole collection answers, told by the flow collections that are open in it.
use Rattle.std.specs.Prelude.{ℕ, ◌+◌, List, length, map, Result, Ok, Err}
use Rattle.al_scalar.specs.Places.{lines_at}
use Rattle.al_yaml_tree.specs.Flow.{flow_collection}
use Rattle.al_yaml.specs.Private.FlowFrames.{IsMadeOf, frame_of, open_of}
use Rattle.al_yaml.specs.Private.Frames.{Open, Frame, open_rest, frame_rest}
pub use Rattle.al_yaml.specs.Private.Nested.{NodeAnswer}
use Rattle.al_yaml.specs.Private.Nested.{Goes, IsInnermost, WholeStops}
use Rattle.al_yaml_parts.specs.Answers.{then_read, noting}
use Rattle.al_yaml_parts.specs.Reads.{State, run, part_of}
use Rattle.al_yaml_parts.specs.declared.faults.ReadError.{ReadError}
use Rattle.al_yaml_parts.specs.declared.frames.FlowFrame.{FlowFrame}
use Rattle.al_yaml_parts.specs.declared.part.Part as code
use Rattle.al_yaml.specs.declared.flow_items.After.{After}
use Rattle.al_yaml.specs.declared.flow_items.After.TheVariants as after
use Rattle.al_yaml.specs.declared.flow.OpenFlow.{OpenFlow}

-- The depth is that of the outermost collection.
abbrev pub flow_goes : ℕ → Goes Frame
flow_goes depth bound turns outside f o =
    then_read (noting f.mark o) (frame_rest (flow_collection bound) turns (depth + outside + 1) f)

-- The innermost collection is read from an offset on.
abbrev pub Inside : List ℕ → ℕ → NodeAnswer → List Frame → State → ℕ → Open → ℕ → Type 0
Inside bytes depth whole fs n opening has at =
    IsInnermost (flow_goes depth) (length bytes) whole fs at
    (λ bound turns. run n (open_rest (flow_collection bound) turns (depth + length fs + 1) opening
    has (lines_at bytes at)))

-- A node was read in the innermost collection on the stack.
abbrev pub AfterNode : List ℕ → ℕ → NodeAnswer → List Frame → State → code.Part → Type 0
AfterNode bytes depth whole fs n p =
    IsInnermost (flow_goes depth) (length bytes) whole fs p.next
    (λ bound turns. Ok (part_of bytes p, n))

-- What comes next in the innermost collection.
abbrev pub Keeps : List ℕ → ℕ → NodeAnswer → List FlowFrame → State → ℕ → Open → After → Type 0
Keeps bytes depth whole stack n opening has (after.GoesOn at) =
    Inside bytes depth whole (map (frame_of bytes) stack) n opening has at
Keeps bytes depth whole stack n opening has (after.Closes end) =
    (p : code.Part) → IsMadeOf opening has end p
    → AfterNode bytes depth whole (map (frame_of bytes) stack) n p

-- what a step leaves
abbrev pub Answers : List ℕ → ℕ → NodeAnswer → List FlowFrame → Result OpenFlow ReadError
    → State → Type 0
Answers bytes depth whole outer (Ok now) n =
    Keeps bytes depth whole outer n now.opening (open_of now.has) now.next
Answers bytes depth whole outer (Err e) n = WholeStops whole e
