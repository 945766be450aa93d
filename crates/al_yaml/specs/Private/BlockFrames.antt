-- What a stack of open block collections stands for, and how contracts speak of it.
use Rattle.std.specs.Prelude.{◌≡◌, ℕ, suc, ◌+◌, ◌<◌, ◌≤◌, List, [], length, map, Bool, true}
use Rattle.std.specs.Prelude.{if◌then◌else◌, Option, Some, None, Result, Ok, Err}
use Rattle.al_base.specs.Limits.{deepest_collection}
use Rattle.al_scalar.specs.Line.{Line}
use Rattle.al_scalar.specs.Places.{first_text, lines_at, text_at}
use Rattle.al_scalar.specs.Scalar.{ScalarRead}
use Rattle.al_scalar.specs.ReadScalar.{read_of}
use Rattle.al_yaml_tree.specs.Node.{Node, Nodes, Entries, sequence, mapping, with_item, with_entry}
use Rattle.al_yaml_tree.specs.Reading.{Reading, gives, Part, part, with_span, ◌>>=◌}
use Rattle.al_yaml_tree.specs.Content as content
use Rattle.al_yaml_tree.specs.Flow.{CollectionReader, flow_collection}
use Rattle.al_yaml_tree.specs.Keys.{Key, no_entry, entry_key}
use Rattle.al_yaml_tree.specs.Blocks.{BlockReader, rest_below, sequence_entries, mapping_entries}
use Rattle.al_yaml_tree.specs.Blocks.{block_node, bare_node}
use Rattle.al_yaml_parts.specs.BlockReads.{IsKeyAfter, IsTabInside, key_seen, slot_of}
use Rattle.al_yaml_parts.specs.Answers.{completing, mark_of, noting, then_read}
use Rattle.al_yaml_parts.specs.FlowReads.{IsBracket}
use Rattle.al_yaml_parts.specs.Places.{next_of, IsLineFrom}
use Rattle.al_yaml_parts.specs.Reads.{State, run, FailsWith, IsPartAfter, part_of}
use Rattle.al_yaml_parts.specs.Stacks.{HasRoom, OpenCollections}
use Rattle.al_yaml_tree.specs.View.{view, entry_view, nodes_of, entries_of}
use Rattle.al_yaml_parts.specs.declared.faults.ReadError.{ReadError}
use Rattle.al_yaml_parts.specs.declared.part.Part as code
use Rattle.al_yaml_parts.specs.declared.content.Next.{Next}
use Rattle.al_yaml_parts.specs.declared.keys.Key as key_type
use Rattle.al_yaml_parts.specs.declared.content.Next.TheVariants as next
use Rattle.al_yaml_parts.specs.declared.slots.Slot as slot
use Rattle.al_yaml_parts.specs.declared.slots.Cursor as cursor
use Rattle.al_yaml.specs.declared.block.BlockOpen as open_type
use Rattle.al_yaml.specs.declared.block.BlockOpen.TheVariants as open_code
use Rattle.al_yaml_parts.specs.declared.frames.BlockFrame.{BlockFrame}
use Rattle.al_yaml_parts.specs.declared.frames.BlockWaiting as waiting_type
use Rattle.al_yaml_parts.specs.declared.frames.BlockWaiting.TheVariants as waiting_code
use Rattle.al_yaml.specs.declared.block.BlockTask as task_type
use Rattle.al_yaml.specs.declared.block.NodePlace.{NodePlace}
use Rattle.al_yaml.specs.declared.block.PartBefore as before_type
use Rattle.al_yaml.specs.declared.block.BlockTask.TheVariants as task

-- What was read of an open block collection, up to a dash or a key.
pub data BlockOpen : Type 0 where
  items : Bool → Nodes → BlockOpen
  entries : Entries → Key → BlockOpen

-- What a block collection waits with while a node in it is read.
pub data BlockWaiting : Type 0 where
  item : Bool → Nodes → BlockWaiting
  value : Entries → ScalarRead → BlockWaiting

-- An open collection from here on. bound is what the nodes in it are read with, turns bounds what
-- is still read.
abbrev pub block_rest : ℕ → ℕ → ℕ → ℕ → ℕ → BlockOpen → List Line → Reading (Part Node)
block_rest turns bound depth start column (items in_mapping done) ls =
    with_span sequence start (sequence_entries (block_node bound) (flow_collection (suc bound))
    turns in_mapping column depth done ls)
block_rest turns bound depth start column (entries done key) ls =
    with_span mapping start (mapping_entries (block_node bound) (flow_collection (suc bound)) turns
    column depth done key)

-- what is on the next line of a sequence, and of a mapping, in its column

abbrev pub more_items : BlockReader → CollectionReader → ℕ → Bool → ℕ → ℕ → Part Nodes → List Line
    → Reading (Part Nodes)
more_items node collection turns in_mapping column depth now left =
    if content.is_dash (first_text left)
    then sequence_entries node collection turns in_mapping column depth now.value left
    else (if in_mapping then gives now else no_entry collection depth left)

abbrev pub more_entries : BlockReader → CollectionReader → ℕ → ℕ → ℕ → Part Entries → List Line
    → Reading (Part Entries)
more_entries node collection turns column depth now left =
    entry_key collection depth left
    >>= (λ key. mapping_entries node collection turns column depth now.value key)

-- the same from after the node that it waited for
abbrev pub block_waits : ℕ → ℕ → ℕ → ℕ → ℕ → BlockWaiting → Part Node → Reading (Part Node)
block_waits turns bound depth start column (item in_mapping done) x =
    with_span sequence start (rest_below column (part (with_item done x.value) x.end x.left)
    (more_items (block_node bound) (flow_collection (suc bound)) turns in_mapping column depth))
block_waits turns bound depth start column (value done k) x =
    with_span mapping start (rest_below column
    (part (with_entry done k.scalar x.value) x.end x.left)
    (more_entries (block_node bound) (flow_collection (suc bound)) turns column depth))

-- ---- as the code has them

abbrev pub block_open_of : List ℕ → open_type.BlockOpen → BlockOpen
block_open_of bytes (open_code.Items in_mapping v) = items in_mapping (nodes_of (map view v.items))
block_open_of bytes (open_code.Entries v key) =
    entries (entries_of (map entry_view v.items)) (key_seen bytes key)

abbrev pub block_waiting_of : List ℕ → waiting_type.BlockWaiting → BlockWaiting
block_waiting_of bytes (waiting_code.Item in_mapping v) =
    item in_mapping (nodes_of (map view v.items))
block_waiting_of bytes (waiting_code.Value v read) =
    value (entries_of (map entry_view v.items)) (read_of bytes read)

-- what reads a node from its first character on, or from after its anchor
abbrev pub node_reader : ℕ → Option ℕ → BlockReader
node_reader bound None = block_node bound
node_reader bound (Some at) = bare_node bound

-- a node from its first character on, or from after its anchor
abbrev pub node_at : List ℕ → ℕ → ℕ → NodePlace → Reading (Part Node)
node_at bytes bound depth node =
    completing bytes node.anchor (node_reader bound node.anchor (slot_of node.slot) depth
    node.start.column (lines_at bytes node.start.at))

-- where a node may begin
pub record IsNodeAt (bytes : List ℕ) (s : slot.Slot) (p : cursor.Cursor) : Type 0 where
  pub inside : p.at ≤ length bytes
  pub column : p.column ≤ p.at
  pub within : s.within ≤ p.at + 1
  pub empty : s.empty ≤ length bytes
  pub tab : IsTabInside (length bytes) s.spot

-- what is left after a dash, a colon or an anchor, on its line
pub record IsRestAt (bytes : List ℕ) (s : slot.Slot) (p : cursor.Cursor) (rest : ℕ) : Type 0 where
  pub order : p.at ≤ rest
  pub inside : rest ≤ length bytes
  pub line : content.same_line (lines_at bytes p.at) (lines_at bytes rest) ≡ true
  pub column : p.column ≤ p.at
  pub within : s.within ≤ rest + 1
  pub empty : s.empty ≤ length bytes
  pub tab : IsTabInside (length bytes) s.spot

-- a node is read from here on, outside of flow collections
pub record IsNodeHere (bytes : List ℕ) (now : OpenCollections) (place : NodePlace) : Type 0 where
  pub outside : now.flows ≡ []
  pub node : IsNodeAt bytes place.slot place.start

-- a node is looked for from the start of a line on
pub record IsLineBelow (bytes : List ℕ) (node : NodePlace) : Type 0 where
  pub inside : node.start.at ≤ length bytes
  pub within : node.slot.within ≤ node.start.at + 1
  pub empty : node.slot.empty ≤ length bytes

-- the first entry of a block sequence is read from here on
pub record IsDashHere (bytes : List ℕ) (now : OpenCollections) (place : NodePlace) : Type 0 where
  pub here : IsNodeHere bytes now place
  pub dash : content.is_dash (text_at bytes place.start.at) ≡ true
  pub inside : place.start.at < length bytes

-- the first key of a block mapping was read from here on
pub record IsKeyHere (bytes : List ℕ) (now : OpenCollections) (place : NodePlace)
    (read : key_type.Key) : Type 0 where
  pub here : IsNodeHere bytes now place
  pub key : IsKeyAfter bytes place.start.at read

-- an anchor or alias is read from here on
pub record IsPropertyHere (bytes : List ℕ) (now : OpenCollections)
    (place : NodePlace) : Type 0 where
  pub here : IsNodeHere bytes now place
  pub property : content.is_property (text_at bytes place.start.at) ≡ true

-- a flow collection is read from here on, in block context
pub record IsFlowHere (bytes : List ℕ) (now : OpenCollections) (at : ℕ) : Type 0 where
  pub outside : now.flows ≡ []
  pub bracket : IsBracket bytes at at

abbrev pub IsNextInside : ℕ → Next → Type 0
IsNextInside size next.Ended = Unit {0}
IsNextInside size (next.Line indent at) = (at ≤ size) × (indent ≤ at)

-- a line begins at an offset
abbrev pub IsNextAt : Next → ℕ → Type 0
IsNextAt next.Ended at = ⊥
IsNextAt (next.Line indent first) at = at ≡ first

-- an entry of a collection at a column, which begins the next content line
pub record IsEntryOn (size indent : ℕ) (line : Next) (at : ℕ) : Type 0 where
  pub inside : at ≤ size
  pub column : indent ≤ at
  pub here : IsNextAt line at

-- a further entry is looked for in an open block collection
pub record IsEntryHere (size : ℕ) (now : OpenCollections) (at : ℕ) : Type 0 where
  pub inside : at ≤ size
  pub room : HasRoom now

-- the next content line after a part
abbrev pub IsNextAfter : List ℕ → code.Part → Next → Type 0
IsNextAfter bytes p x = (content.content (lines_at bytes p.next) ≡ Ok (next_of bytes x))
    × IsNextInside (length bytes) x
    × IsLineFrom p.next (length bytes) x

-- ---- a node: it was read whole, a collection begins, or it comes after an anchor

abbrev pub Begins : List ℕ → ℕ → ℕ → Reading (Part Node) → State
    → Result task_type.BlockTask ReadError → State → Type 0
Begins bytes bound depth reading before (Ok (task.Read p)) after =
    run before reading ≡ Ok (part_of bytes p, after)
Begins bytes bound depth reading before (Ok (task.Inside x)) after =
    run before reading
    ≡ noting (mark_of bytes x.begun.anchor)
    (run after (block_rest (suc bound) bound (depth + 1) x.begun.start.at x.begun.start.column
    (block_open_of bytes x.has)
    (lines_at bytes x.at)))
Begins bytes bound depth reading before (Ok (task.Node x)) after =
    run before reading
    ≡ noting (mark_of bytes x.anchor)
    (run after (node_reader (suc bound) x.anchor (slot_of x.slot) depth x.start.column
    (lines_at bytes x.start.at)))
Begins bytes bound depth reading before (Ok (task.Found r)) after =
    run before reading ≡ Ok (part_of bytes r.part, after)
Begins bytes bound depth reading before (Err e) after = FailsWith reading before e

-- a node was read, and the line after it, for which a collection that was popped waits
pub record IsReadFor (bytes : List ℕ) (now : OpenCollections) (f : BlockFrame)
    (r : before_type.PartBefore) : Type 0 where
  pub start : f.begun.start.at ≤ length bytes
  pub inside : r.part.next ≤ length bytes
  pub end : r.part.end ≤ length bytes
  pub next : IsNextAfter bytes r.part r.next
  pub room : HasRoom now

-- a part that was found from an offset on, with the line after it
abbrev pub IsFoundPart : List ℕ → ℕ → before_type.PartBefore → Type 0
IsFoundPart bytes from r = IsPartAfter bytes from r.part × IsNextAfter bytes r.part r.next

-- what comes after a dash, a colon or an anchor: a node, or the empty node, which was read
abbrev pub FindsBlock : List ℕ → BlockReader → Option ℕ → ℕ → Reading (Part Node) → State
    → Result task_type.BlockTask ReadError → State →
    Type 0
FindsBlock bytes node anchor depth reading before (Ok (task.Node x)) after =
    (x.anchor ≡ anchor) × (run before reading
    ≡ run after (node (slot_of x.slot) depth x.start.column (lines_at bytes x.start.at)))
FindsBlock bytes node anchor depth reading before (Ok (task.Found r)) after =
    noting (mark_of bytes anchor) (run before reading) ≡ Ok (part_of bytes r.part, after)
FindsBlock bytes node anchor depth reading before (Ok (task.Read p)) after = ⊥
FindsBlock bytes node anchor depth reading before (Ok (task.Inside x)) after = ⊥
FindsBlock bytes node anchor depth reading before (Err e) after = FailsWith reading before e

-- ---- where it lies

abbrev pub IsOpenAt : List ℕ → ℕ → ℕ → open_type.BlockOpen → Type 0
IsOpenAt bytes column at (open_code.Items in_mapping v) =
    (content.is_dash (text_at bytes at) ≡ true) × (at < length bytes) × (column ≤ at)
IsOpenAt bytes column at (open_code.Entries v key) = IsKeyAfter bytes at key × (column ≤ at)

abbrev pub IsBegun : List ℕ → ℕ → ℕ → task_type.BlockTask → Type 0
IsBegun bytes from depth (task.Read p) = IsPartAfter bytes from p
IsBegun bytes from depth (task.Inside x) =
    (x.begun.start.at ≡ from) × (x.at ≡ from) × (depth ≤ deepest_collection)
    × IsOpenAt bytes x.begun.start.column x.at x.has
IsBegun bytes from depth (task.Node x) = IsNodeAt bytes x.slot x.start × (from < x.start.at)
IsBegun bytes from depth (task.Found r) =
    IsPartAfter bytes from r.part × IsNextAfter bytes r.part r.next

abbrev pub IsFoundFrom : List ℕ → ℕ → task_type.BlockTask → Type 0
IsFoundFrom bytes from (task.Node x) = IsNodeAt bytes x.slot x.start × (from ≤ x.start.at)
IsFoundFrom bytes from (task.Found r) = IsFoundPart bytes from r
IsFoundFrom bytes from (task.Read p) = ⊥
IsFoundFrom bytes from (task.Inside x) = ⊥

-- ---- a collection goes on: with what it waits and for what, and after the node that it waited for

abbrev pub EntersWith : List ℕ → ℕ → ℕ → ℕ → ℕ → ℕ → Reading (Part Node) → State
    → waiting_type.BlockWaiting → task_type.BlockTask
    → State → Type 0
EntersWith bytes bound turns depth start column reading before w (task.Node x) after =
    (x.anchor ≡ None) × (run before reading
    ≡ then_read (run after (block_node bound (slot_of x.slot) depth x.start.column
    (lines_at bytes x.start.at)))
    (block_waits turns bound depth start column (block_waiting_of bytes w)))
EntersWith bytes bound turns depth start column reading before w (task.Found r) after =
    run before reading
    ≡ run after (block_waits turns bound depth start column (block_waiting_of bytes w)
    (part_of bytes r.part))
EntersWith bytes bound turns depth start column reading before w (task.Read p) after = ⊥
EntersWith bytes bound turns depth start column reading before w (task.Inside x) after = ⊥

abbrev pub Enters : List ℕ → ℕ → ℕ → ℕ → ℕ → ℕ → Reading (Part Node) → State →
    Result (waiting_type.BlockWaiting × task_type.BlockTask) ReadError → State → Type 0
Enters bytes bound turns depth start column reading before (Ok r) after =
    EntersWith bytes bound turns depth start column reading before r.0 r.1 after
Enters bytes bound turns depth start column reading before (Err e) after =
    FailsWith reading before e

abbrev pub ResumesBlock : List ℕ → ℕ → ℕ → ℕ → ℕ → ℕ → Option ℕ → BlockWaiting → Part Node → State
    → Result task_type.BlockTask ReadError → State → Type 0
ResumesBlock bytes bound turns depth start column mark w x before (Ok (task.Inside i)) after =
    (i.begun.start.at ≡ start) × (i.begun.start.column ≡ column) × (i.begun.anchor ≡ mark)
    × (run before (block_waits turns bound depth start column w x)
    ≡ run after (block_rest turns bound depth start column (block_open_of bytes i.has)
    (lines_at bytes i.at)))
ResumesBlock bytes bound turns depth start column mark w x before (Ok (task.Found r)) after =
    noting (mark_of bytes mark) (run before (block_waits turns bound depth start column w x))
    ≡ Ok (part_of bytes r.part, after)
ResumesBlock bytes bound turns depth start column mark w x before (Ok (task.Read p)) after = ⊥
ResumesBlock bytes bound turns depth start column mark w x before (Ok (task.Node n)) after = ⊥
ResumesBlock bytes bound turns depth start column mark w x before (Err e) after =
    FailsWith (block_waits turns bound depth start column w x) before e

abbrev pub IsEntered : List ℕ → ℕ → waiting_type.BlockWaiting × task_type.BlockTask → Type 0
IsEntered bytes at r = IsFoundFrom bytes (suc at) r.1

abbrev pub IsResumed : List ℕ → ℕ → task_type.BlockTask → Type 0
IsResumed bytes from (task.Inside x) =
    IsOpenAt bytes x.begun.start.column x.at x.has × (from ≤ x.at)
IsResumed bytes from (task.Found r) = IsFoundPart bytes from r
IsResumed bytes from (task.Read p) = ⊥
IsResumed bytes from (task.Node x) = ⊥
