-- Flow collections (YAML 1.2.2, 7.4) and the nodes in them.
use Rattle.std.specs.Prelude.{ℕ, zero, suc, ◌+◌, List, [], ◌∷◌, Bool, true, false, not, ◌&&◌}
use Rattle.std.specs.Prelude.{◌||◌, if◌then◌else◌, Option, Some, None, Result, Ok}
use Rattle.al_base.specs.declared.codes.YamlCode.TheVariants as yaml
use Rattle.al_base.specs.Ascii.{ascii}
use Rattle.al_scalar.specs.Line.{Cell, Line, start, cut, after_blanks, is_empty, begins, past}
use Rattle.al_scalar.specs.Line.{begins_blank, blanks_dropped}
use Rattle.al_scalar.specs.Places.{first_text}
use Rattle.al_scalar.specs.Taken.{fault}
use Rattle.al_scalar.specs.declared.faults.FaultAt.{FaultAt}
use Rattle.al_scalar.specs.Plain.{flow, is_value_colon}
use Rattle.al_scalar.specs.Block.{at_end}
use Rattle.al_scalar.specs.Scalar.{ScalarRead, scalar_at, empty_scalar}
use Rattle.al_yaml_tree.specs.Node.{Node, Nodes, Entries, scalar, sequence, mapping}
use Rattle.al_yaml_tree.specs.Node.{no_nodes, with_item, no_entries, with_entry, scalar_node}
use Rattle.al_yaml_tree.specs.Reading.{Reading, gives, fails, of_result, starting_scalar, start_of}
use Rattle.al_yaml_tree.specs.Reading.{with_start}
use Rattle.al_yaml_tree.specs.Reading.{gives_with_anchor, alias, Part, part, with_span, ◌>>=◌}
use Rattle.al_yaml_tree.specs.Content.{is_file_end, flow_fault, unless_code, is_flow_start}
use Rattle.al_yaml_tree.specs.Content.{starts_quoted, is_property}
use Rattle.al_yaml_tree.specs.Content.{anchor_name, after_name, has_no_name, same_line}
use Rattle.al_yaml_tree.specs.Content.{is_simple_key}

-- What surrounds a node in a flow collection: the offset of the collection's opening bracket, and
-- that of the empty node that takes its place if there is none, where an empty node is allowed.
pub record FlowSlot : Type 0 where
  pub opening : ℕ
  pub empty : Option ℕ

-- Reads the node of this depth at the first character.
abbrev pub FlowReader : Type 0
FlowReader = FlowSlot → ℕ → List Line → Reading (Part Node)

-- Reads the flow collection of this depth whose bracket begins the lines.
abbrev pub CollectionReader : Type 0
CollectionReader = ℕ → List Line → Reading (Part Node)

-- the lines that a gap skips: with nothing but blanks, or with a comment after a blank or at the
-- line's start
abbrev pub is_gap_line : Bool → List Cell → Bool
is_gap_line at_start text =
    is_empty (after_blanks text)
    || (begins (ascii "#") (after_blanks text) && (at_start || begins_blank text))

-- Blanks, breaks and comments are skipped (6.7). Text is left after them, except at the file's end.
abbrev pub gap : Bool → List Line → List Line
gap at_start [] = []
gap at_start (l ∷ ls) =
    let below = gap true ls in
    if is_gap_line at_start l.text then (if l.last then at_end l else below)
    else cut (after_blanks l.text) l ls

-- an empty node at an offset
abbrev pub empty_node : ℕ → List Line → Reading (Part Node)
empty_node at left = starting_scalar at (gives (part (scalar (empty_scalar at)) at left))

-- The rest of a collection, given all its items or entries so far and the lines after the last one:
-- after a comma, more reads the next.
abbrev pub rest_after : {A : Type 0} → ℕ → (List Line → Reading (Part A)) → ℕ → A → List Line
    → Reading (Part A)
rest_after close more opening done left =
    let ls = gap false left in
    if is_file_end ls then fails yaml.UnclosedFlow opening
    else (if begins (ascii ",") (first_text ls) then more (gap false (past 1 ls))
    else (if begins close (first_text ls) then gives (part done (start ls + 1) (past 1 ls))
    else fails yaml.UnexpectedCharacter (start ls)))

-- Items after those done, from the first character of an item or the closer. turns bounds their
-- number.
unfoldable pub flow_items : FlowReader → ℕ → ℕ → ℕ → Nodes → List Line → Reading (Part Nodes)
flow_items node zero opening depth done ls = fails yaml.UnexpectedCharacter 0
flow_items node (suc turns) opening depth done ls =
    if is_file_end ls then fails yaml.UnclosedFlow opening
    else (if begins (ascii "]") (first_text ls) then gives (part done (start ls + 1) (past 1 ls))
    else (do
      x ← node (record { opening = opening; empty = None }) depth ls
      rest_after (ascii "]") (λ left.
          flow_items node turns opening depth (with_item done x.value) left) opening
          (with_item done x.value) x.left))

-- The lines after a key's colon, if there is one on its line. After a quoted key, anything may
-- follow the colon.
abbrev pub is_key_colon : Bool → List Line → Bool
is_key_colon after_quote ls = (after_quote && begins (ascii ":") (first_text ls))
    || is_value_colon flow (after_blanks (first_text ls))

abbrev pub after_colon_in_flow : Bool → List Line → Option (List Line)
after_colon_in_flow after_quote ls = if is_key_colon after_quote ls
    then Some (past 1 (blanks_dropped ls)) else None

-- A value: empty before a comma or the closer.
abbrev pub flow_value : FlowReader → FlowSlot → ℕ → List Line → Reading (Part Node)
flow_value node slot depth ls =
    if is_file_end ls then fails yaml.UnclosedFlow slot.opening
    else (if begins (ascii ",") (first_text ls) || begins (ascii "}") (first_text ls)
    then elim slot.empty [
      | None ↦ fails yaml.UnexpectedCharacter (start ls)
      | Some at ↦ empty_node at ls
    ]
    else node slot depth ls)

-- A key, and the lines after its colon if it has one.
pub record FlowKey : Type 0 where
  pub read : ScalarRead
  pub after : Option (List Line)

-- whether a colon begins a later line
abbrev pub is_late_colon : List Line → Bool
is_late_colon left =
    begins (ascii ":") (first_text (gap false left)) && not (same_line left (gap false left))

-- The lines after the colon of a scalar that is a key, which must be on one line. A colon that
-- begins a later line is a fault at the key.
abbrev pub unless_late : List Line → ScalarRead → Option (List Line)
    → Result (Option (List Line)) FaultAt
unless_late ls r (Some left) = Ok (Some left)
unless_late ls r None = if is_late_colon r.left then fault yaml.WrongKey (start ls) else Ok None

abbrev pub key_colon : List Line → ScalarRead → Result (Option (List Line)) FaultAt
key_colon ls r = if not (is_simple_key ls r) then fault yaml.WrongKey (start ls)
    else unless_late ls r (after_colon_in_flow (starts_quoted (first_text ls)) r.left)

unfoldable pub flow_key : CollectionReader → ℕ → List Line → Reading FlowKey
flow_key collection depth ls =
    let at = start ls in
    unless_code (flow_fault (first_text ls)) at (
    if is_property (first_text ls)
    then fails (if has_no_name ls then yaml.UnexpectedCharacter else yaml.AnchorOrAlias) at
    else (if is_flow_start (first_text ls) then (do
      x ← collection depth ls
      fails yaml.WrongKey at)
    else (do
      r ← of_result (scalar_at flow ls)
      colon ← of_result (key_colon ls r)
      starting_scalar at (gives (record { read = r; after = colon })))))

-- The value of an entry, given its key; without a colon it is empty.
unfoldable pub flow_entry_value : FlowReader → ℕ → ℕ → FlowKey → Reading (Part Node)
flow_entry_value node opening depth key =
    elim key.after [
      | None ↦ empty_node key.read.scalar.span.end key.read.left
      | Some left ↦ flow_value node (record { opening = opening; empty = Some (start left) }) depth
          (gap false left)
    ]

-- Entries after those done, from the first character of an entry or the closer.
unfoldable pub flow_entries : FlowReader → CollectionReader → ℕ → ℕ → ℕ → Entries → List Line
    → Reading (Part Entries)
flow_entries node collection zero opening depth done ls = fails yaml.UnexpectedCharacter 0
flow_entries node collection (suc turns) opening depth done ls =
    if is_file_end ls then fails yaml.UnclosedFlow opening
    else (if begins (ascii "}") (first_text ls) then gives (part done (start ls + 1) (past 1 ls))
    else (do
      key ← flow_key collection depth ls
      x ← flow_entry_value node opening depth key
      rest_after (ascii "}") (λ left. flow_entries node collection turns opening depth
          (with_entry done key.read.scalar x.value) left) opening
          (with_entry done key.read.scalar x.value) x.left))

-- a node without properties
unfoldable pub flow_content : CollectionReader → FlowSlot → ℕ → List Line → Reading (Part Node)
flow_content collection slot depth ls =
    unless_code (flow_fault (first_text ls)) (start ls) (
    if is_property (first_text ls) then fails yaml.UnexpectedCharacter (start ls)
    else (if is_flow_start (first_text ls) then collection depth ls
    else starting_scalar (start ls) (do
      r ← of_result (scalar_at flow ls)
      gives (part (scalar_node r) r.scalar.span.end r.left))))

-- An alias, or an anchor and its node (6.9.2, 7.1), not on a key: ending continues after an alias,
-- node after an anchor's name.
abbrev pub property : Bool → (Part Node → Reading (Part Node)) → (List Line → Reading (Part Node))
    → ℕ → List Line → Reading (Part Node)
property on_key ending node depth ls =
    let at = start ls in
    let name = anchor_name ls in
    let rest = after_name ls in
    if has_no_name ls then fails yaml.UnexpectedCharacter at
    else (if on_key then fails yaml.AnchorOrAlias at
    else (if begins (ascii "*") (first_text ls)
    then (do
      n ← alias name at depth
      ending (part n (start rest) rest))
    else (do
      x ← node rest
      gives_with_anchor (record { name = name; at = at; node = x.value }) x)))

unfoldable pub flow_property : CollectionReader → FlowSlot → ℕ → List Line → Reading (Part Node)
flow_property collection slot depth ls =
    property false gives (λ rest. flow_value (flow_content collection) slot depth (gap false rest))
    depth ls

-- a node in a flow collection
abbrev pub flow_node_over : CollectionReader → FlowReader
flow_node_over collection slot depth ls =
    if is_property (first_text ls) then flow_property collection slot depth ls
    else flow_content collection slot depth ls

-- Collections with a depth of nesting below the bound, each with fewer parts than the bound; the
-- file's length plus one is always enough.
unfoldable pub flow_collection : ℕ → CollectionReader
flow_collection zero depth ls = fails yaml.UnexpectedCharacter 0
flow_collection (suc bound) depth ls =
    let collection = flow_collection bound in
    let node = flow_node_over collection in
    let at = start ls in
    let inside = gap false (past 1 ls) in
    with_start (start_of at 1 depth) (
    if begins (ascii "[") (first_text ls)
    then with_span sequence at (flow_items node (suc bound) at (depth + 1) no_nodes inside)
    else with_span mapping at (flow_entries node collection (suc bound) at (depth + 1)
    no_entries inside))
