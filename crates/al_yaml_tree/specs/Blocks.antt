-- Block nodes (YAML 1.2.2, 8.2).
use Rattle.std.specs.Prelude.{ℕ, zero, suc, ◌+◌, List, Bool, true, false, not, ◌&&◌, ◌||◌, ◌==◌}
use Rattle.std.specs.Prelude.{nat_le}
use Rattle.std.specs.Prelude.{nat_lt, if◌then◌else◌, Option, Some, None}
use Rattle.al_base.specs.declared.codes.YamlCode.TheVariants as yaml
use Rattle.al_scalar.specs.Line.{Cell, Line, start, blanks_dropped, past}
use Rattle.al_scalar.specs.Places.{first_text}
use Rattle.al_scalar.specs.Plain.{block}
use Rattle.al_scalar.specs.Scalar.{scalar_at}
use Rattle.al_yaml_tree.specs.Node.{Node, Nodes, Entries, sequence, mapping, no_nodes, with_item}
use Rattle.al_yaml_tree.specs.Node.{no_entries, with_entry, scalar_node}
use Rattle.al_yaml_tree.specs.Reading.{Reading, Part, gives, fails, of_result, part, start_of}
use Rattle.al_yaml_tree.specs.Reading.{starting_scalar, with_span, with_start}
use Rattle.al_yaml_tree.specs.Reading.{◌>>=◌}
use Rattle.al_yaml_tree.specs.Content.{Next, ended, at_line, is_skipped, content, line_ended}
use Rattle.al_yaml_tree.specs.Content.{whole_lines, is_dash, tab_among}
use Rattle.al_yaml_tree.specs.Content.{block_fault, unless_code, is_flow_start, is_property}
use Rattle.al_yaml_tree.specs.Content.{same_line, characters, is_short_key}
use Rattle.al_yaml_tree.specs.Flow.{CollectionReader, empty_node, property, flow_collection}
use Rattle.al_yaml_tree.specs.Keys.{Key, key_here, has_colon, is_block_start, is_on_key, no_entry}
use Rattle.al_yaml_tree.specs.Keys.{entry_key}

-- Where a node begins: on a line of its own; after a dash, an anchor or both, with the offset of
-- the first tab before it; after a key on its line.
pub data Spot : Type 0 where
  own_line : Spot
  compact : Option ℕ → Spot
  after_key : Spot

-- What surrounds a node: its spot; the least indent of its further lines, one more than that of the
-- enclosing collection and 0 at the root; whether it is the value of a mapping's entry; the offset
-- of the empty node that takes its place if there is none.
pub record Slot : Type 0 where
  pub spot : Spot
  pub within : ℕ
  pub in_mapping : Bool
  pub empty : ℕ

-- Reads the node of this depth at the first character, which is in this column.
abbrev pub BlockReader : Type 0
BlockReader = Slot → ℕ → ℕ → List Line → Reading (Part Node)

abbrev pub is_after_key : Spot → Bool
is_after_key after_key = true
is_after_key _ = false

-- the tab before a compact collection
abbrev pub tab_before : Spot → Option ℕ
tab_before (compact tab) = tab
tab_before _ = None

abbrev pub unless_tab : {A : Type 0} → Option ℕ → Reading A → Reading A
unless_tab (Some at) r = fails yaml.TabInIndentation at
unless_tab None r = r

-- the spot after blanks on the line
abbrev pub spot_after : List Cell → Spot → Spot
spot_after text own_line = compact (tab_among text)
spot_after text (compact None) = compact (tab_among text)
spot_after text spot = spot

-- whether a content line holds the node: one deeper than what encloses it, or a sequence at the
-- indent of its key
abbrev pub is_deeper : Slot → ℕ → List Line → Bool
is_deeper slot i left =
    nat_le slot.within i || (slot.in_mapping && (i + 1 == slot.within) && is_dash (first_text left))

-- the node on the next content line, if it holds it, or else the empty node
abbrev pub node_found : BlockReader → Slot → ℕ → List Line → Next → Reading (Part Node)
node_found node slot depth ls ended = empty_node slot.empty ls
node_found node slot depth ls (at_line i left) = if is_deeper slot i left
    then node (record slot { spot = own_line }) depth i left
    else empty_node slot.empty ls

abbrev pub node_below : BlockReader → Slot → ℕ → List Line → Reading (Part Node)
node_below node slot depth ls = do
  found ← of_result (content ls)
  node_found node slot depth ls found

-- The node after a dash, a colon or an anchor; the column is that of ls, of which rest is left.
abbrev pub rest_node : BlockReader → Slot → ℕ → ℕ → List Line → List Line → Reading (Part Node)
rest_node node slot depth column ls rest =
    let left = blanks_dropped rest in
    if is_skipped (first_text rest) then node_below node slot depth (whole_lines rest)
    else node (record slot { spot = spot_after (first_text rest) slot.spot }) depth
    (column + characters (start left) (first_text ls)) left

-- The rest of a collection in the column, given what was read of it so far: more reads from its
-- next line on, and a line with less indent closes it.
abbrev pub rest_found : {A : Type 0} → ℕ → Part A → (Part A → List Line → Reading (Part A)) → Next
    → Reading (Part A)
rest_found column done more ended = gives done
rest_found column done more (at_line i left) = if i == column then more done left
    else (if nat_lt i column then gives done else fails yaml.WrongIndentation (start left))

abbrev pub rest_below : {A : Type 0} → ℕ → Part A → (Part A → List Line → Reading (Part A))
    → Reading (Part A)
rest_below column done more = do
  found ← of_result (content done.left)
  rest_found column done more found

-- The slot of a sequence's entry (8.2.1), after its dash.
abbrev pub entry_slot : ℕ → ℕ → Slot
entry_slot column at =
    record { spot = compact None; within = column + 1; in_mapping = false; empty = at }

-- The entries of a sequence after those done, from a dash on. A line at its indent that has no dash
-- closes it if it is the value of a mapping's entry. turns bounds their number.
unfoldable pub sequence_entries : BlockReader → CollectionReader → ℕ → Bool → ℕ → ℕ → Nodes
    → List Line → Reading (Part Nodes)
sequence_entries node collection zero in_mapping column depth done ls =
    fails yaml.UnexpectedCharacter 0
sequence_entries node collection (suc turns) in_mapping column depth done ls = do
  x ← rest_node node (entry_slot column (start (past 1 ls))) depth column ls (past 1 ls)
  rest_below column (part (with_item done x.value) x.end x.left) (λ now left.
      if is_dash (first_text left)
      then sequence_entries node collection turns in_mapping column depth now.value left
      else (if in_mapping then gives now else no_entry collection depth left))

-- The slot of a value (8.2.2), after its key's colon.
abbrev pub value_slot : ℕ → ℕ → Slot
value_slot column at =
    record { spot = after_key; within = column + 1; in_mapping = true; empty = at }

-- The entries of a mapping after those done, the first of which has this key.
unfoldable pub mapping_entries : BlockReader → CollectionReader → ℕ → ℕ → ℕ → Entries → Key
    → Reading (Part Entries)
mapping_entries node collection zero column depth done key = fails yaml.UnexpectedCharacter 0
mapping_entries node collection (suc turns) column depth done key = do
  x ← rest_node node (value_slot column (start key.after)) depth 0 key.after key.after
  rest_below column (part (with_entry done key.read.scalar x.value) x.end x.left) (λ now left.
      entry_key collection depth left
      >>= (λ k. mapping_entries node collection turns column depth now.value k))

-- a node with nothing after it on its line, and the whole lines left
abbrev pub ending_line : Part Node → Reading (Part Node)
ending_line x = do
  left ← of_result (line_ended x.left)
  gives (part x.value x.end left)

-- A scalar, and the whole lines after its line; a block scalar ends with its last line.
abbrev pub scalar_node_at : ℕ → List Line → Reading (Part Node)
scalar_node_at within ls =
    starting_scalar (start ls) (do
      r ← of_result (scalar_at (block within) ls)
      (if is_block_start (first_text ls) then gives else ending_line)
          (part (scalar_node r) r.scalar.span.end r.left))

-- a flow collection in block context: a colon after it would make it a key, and is a fault
abbrev pub flow_at : CollectionReader → Spot → ℕ → List Line → Reading (Part Node)
flow_at collection spot depth ls = do
  x ← collection depth ls
  if not (is_after_key spot) && has_colon x.left then fails yaml.WrongKey (start ls)
      else ending_line x

abbrev pub block_sequence : BlockReader → CollectionReader → ℕ → BlockReader
block_sequence node collection turns slot depth column ls =
    let at = start ls in
    if is_after_key slot.spot then fails yaml.UnexpectedCharacter at
    else unless_tab (tab_before slot.spot) (with_start (start_of at 1 depth) (
    with_span sequence at (sequence_entries node collection turns slot.in_mapping column (depth + 1)
    no_nodes ls)))

-- a mapping whose first key was read
abbrev pub block_mapping : BlockReader → CollectionReader → ℕ → Spot → ℕ → ℕ → List Line → Key
    → Reading (Part Node)
block_mapping node collection turns spot depth column ls key =
    let at = start ls in
    if not (same_line ls key.read.left) then fails yaml.WrongKey at
    else unless_tab (tab_before spot) (
    if not (is_short_key ls key.read) then fails yaml.WrongKey at
    else with_start (start_of at 2 depth) (
    with_span mapping at (mapping_entries node collection turns column (depth + 1) no_entries key)))

-- a node without properties
unfoldable pub block_content : BlockReader → CollectionReader → ℕ → BlockReader
block_content node collection turns slot depth column ls =
    let at = start ls in
    if is_dash (first_text ls) then block_sequence node collection turns slot depth column ls
    else unless_code (block_fault (first_text ls)) at (
    if is_property (first_text ls) then fails yaml.UnexpectedCharacter at
    else (if is_flow_start (first_text ls) then flow_at collection slot.spot depth ls
    else (if is_block_start (first_text ls) || is_after_key slot.spot then
    scalar_node_at slot.within ls
    else (do
      found ← of_result (key_here ls)
      elim found [
        | None ↦ scalar_node_at slot.within ls
        | Some key ↦ block_mapping node collection turns slot.spot depth column ls key
      ]))))

-- an alias, or an anchor and its node, not on a key
unfoldable pub block_property : BlockReader → BlockReader
block_property content slot depth column ls =
    property (not (is_after_key slot.spot) && is_on_key ls) ending_line
    (rest_node content slot depth column ls) depth ls

-- Nodes with a depth of nesting below the bound, each with fewer parts than the bound; the file's
-- length plus one is always enough.
unfoldable pub block_node : ℕ → BlockReader
block_node zero slot depth column ls = fails yaml.UnexpectedCharacter 0
block_node (suc bound) slot depth column ls =
    let content = block_content (block_node bound) (flow_collection (suc bound)) (suc bound) in
    if is_property (first_text ls) then block_property content slot depth column ls
    else content slot depth column ls

-- a node within such a bound, without properties
abbrev pub bare_node : ℕ → BlockReader
bare_node zero slot depth column ls = fails yaml.UnexpectedCharacter 0
bare_node (suc bound) slot depth column ls =
    block_content (block_node bound) (flow_collection (suc bound)) (suc bound) slot depth column ls
