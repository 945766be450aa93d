-- Implicit keys of block mappings (YAML 1.2.2, 7.4, 8.2.2), and lines that begin no entry.
use Rattle.std.specs.Prelude.{ℕ, List, [], ◌∷◌, Bool, true, false, not, ◌&&◌, ◌||◌, if◌then◌else◌}
use Rattle.std.specs.Prelude.{Option, Some, None, is_some, Result, Ok, Err}
use Rattle.al_base.specs.declared.codes.YamlCode.{YamlCode}
use Rattle.al_base.specs.declared.codes.YamlCode.TheVariants as yaml
use Rattle.al_base.specs.Ascii.{ascii}
use Rattle.al_scalar.specs.Line.{Cell, Line, start, cut, after_blanks, begins, blanks_dropped, past}
use Rattle.al_scalar.specs.Places.{first_text}
use Rattle.al_scalar.specs.Plain.{block, is_value_colon}
use Rattle.al_scalar.specs.Scalar.{ScalarRead, scalar_at}
use Rattle.al_scalar.specs.declared.faults.FaultAt.{FaultAt}
use Rattle.al_yaml_tree.specs.Reading.{Reading, gives, fails, of_result, starting_scalar, ◌>>=◌}
use Rattle.al_yaml_tree.specs.Content.{is_skipped, is_dash, block_fault, unless_code}
use Rattle.al_yaml_tree.specs.Content.{is_flow_start, starts_quoted}
use Rattle.al_yaml_tree.specs.Content.{is_property, after_name, has_no_name, same_line}
use Rattle.al_yaml_tree.specs.Content.{is_simple_key}
use Rattle.al_yaml_tree.specs.Flow.{CollectionReader}

-- A key, and the lines after its colon.
pub record Key : Type 0 where
  pub read : ScalarRead
  pub after : List Line

-- the first line as if it were the last
abbrev pub one_line : List Line → List Line
one_line [] = []
one_line (l ∷ ls) = record { text = l.text; end = l.end; last = true } ∷ []

-- the rest of the first line, and the lines after it
abbrev pub with_lines : List Line → List Line → List Line
with_lines rest [] = []
with_lines rest (l ∷ ls) = cut (first_text rest) l ls

-- the part of a plain scalar that is on its first line
abbrev pub plain_on_line : List Line → Result ScalarRead FaultAt
plain_on_line ls =
    elim (scalar_at (block 0) (one_line ls)) [
      | Ok r ↦ Ok (record r { left = with_lines r.left ls })
      | Err f ↦ Err f
    ]

-- the scalar that may be a key: a plain one on its first line only, a quoted one whole
abbrev pub key_scalar : List Line → Result ScalarRead FaultAt
key_scalar ls = if starts_quoted (first_text ls) then scalar_at (block 0) ls else plain_on_line ls

-- whether the colon between a key and its value follows
abbrev pub has_colon : List Line → Bool
has_colon ls = is_value_colon (block 0) (after_blanks (first_text ls))

-- a scalar as a key, if a colon follows
abbrev pub key_before_colon : ScalarRead → Option Key
key_before_colon r = if has_colon r.left
    then Some (record { read = r; after = past 1 (blanks_dropped r.left) }) else None

-- The key that begins here, if one does: a scalar with a colon after it. It may still be too long
-- or span lines.
abbrev pub key_here : List Line → Result (Option Key) FaultAt
key_here ls = elim (key_scalar ls) [ Ok r ↦ Ok (key_before_colon r) | Err f ↦ Err f ]

abbrev pub is_block_start : List Cell → Bool
is_block_start cs = begins (ascii "|") cs || begins (ascii ">") cs

-- whether a scalar on one line begins here and a colon follows it
abbrev pub begins_key : List Line → Bool
begins_key ls = elim (key_here ls) [ Ok (Some key) ↦ same_line ls key.read.left | _ ↦ false ]

abbrev pub is_key_start : List Cell → Bool
is_key_start cs =
    not (is_skipped cs || is_dash cs || is_property cs || is_block_start cs || is_flow_start cs
    || is_some (block_fault cs))

-- Keys have no anchors and are no aliases here, though YAML allows both (6.9.2, 7.1). Whether an
-- anchor or alias is on a key: the alias itself, or what follows the anchor on its line.
abbrev pub is_on_key : List Line → Bool
is_on_key ls =
    let left = blanks_dropped (after_name ls) in
    if begins (ascii "*") (first_text ls) then has_colon (after_name ls)
    else is_key_start (first_text left) && begins_key left

-- the fault of an anchor or alias where an entry of an open mapping is expected
abbrev pub property_fault : List Line → YamlCode
property_fault ls = if not (has_no_name ls) && is_on_key ls then yaml.AnchorOrAlias
    else yaml.UnexpectedCharacter

-- the fault of a flow collection that begins a line but no entry of the open mapping: it is a key
-- if a colon follows it
abbrev pub collection_fault : List Line → YamlCode
collection_fault left = if has_colon left then yaml.WrongKey else yaml.UnexpectedCharacter

-- a line that begins no entry of the open sequence
unfoldable pub no_entry : {A : Type 0} → CollectionReader → ℕ → List Line → Reading A
no_entry collection depth ls =
    let at = start ls in
    unless_code (block_fault (first_text ls)) at (
    if is_property (first_text ls) then fails yaml.UnexpectedCharacter at
    else (if is_flow_start (first_text ls) then (do
      x ← collection depth ls
      fails yaml.UnexpectedCharacter at)
    else (if starts_quoted (first_text ls) then (do
      r ← of_result (scalar_at (block 0) ls)
      fails yaml.UnexpectedCharacter at)
    else fails yaml.UnexpectedCharacter at)))

-- a key that was found where a further entry is expected
abbrev pub found_key : List Line → Option Key → Reading Key
found_key ls None = fails yaml.UnexpectedCharacter (start ls)
found_key ls (Some key) = if is_simple_key ls key.read then starting_scalar (start ls) (gives key)
    else fails yaml.WrongKey (start ls)

-- the key of a further entry of the open mapping
unfoldable pub entry_key : CollectionReader → ℕ → List Line → Reading Key
entry_key collection depth ls =
    let at = start ls in
    unless_code (block_fault (first_text ls)) at (
    if is_property (first_text ls) then fails (property_fault ls) at
    else (if is_dash (first_text ls) || is_block_start (first_text ls) then
    fails yaml.UnexpectedCharacter at
    else (if is_flow_start (first_text ls) then (do
      x ← collection depth ls
      fails (collection_fault x.left) at)
    else (do
      found ← of_result (key_here ls)
      found_key ls found))))
