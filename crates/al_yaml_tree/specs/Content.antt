-- Content lines, comments and document markers (YAML 1.2.2, 6.6, 6.7, 9.1), anchor names (6.9.2),
-- and what a node's first character forbids (5.3).
use Rattle.std.specs.Bool.{then_some}
use Rattle.std.specs.List.{prefix_len}
use Rattle.std.specs.Prelude.{ℕ, ◌+◌, List, [], ◌∷◌, length, map, drop, take, Bool, true, false}
use Rattle.std.specs.Prelude.{◌&&◌, not}
use Rattle.std.specs.Prelude.{◌||◌, ◌==◌, nat_le}
use Rattle.std.specs.Prelude.{if◌then◌else◌, Option, Some, None, Result, Ok}
use Rattle.std.specs.Option.{option_or}
use Rattle.al_base.specs.declared.codes.YamlCode.{YamlCode}
use Rattle.al_base.specs.declared.codes.YamlCode.TheVariants as yaml
use Rattle.al_base.specs.Ascii.{ascii}
use Rattle.al_base.specs.Limits.{longest_key}
use Rattle.al_base.specs.Positions.{begins_char}
use Rattle.al_scalar.specs.Line.{Cell, Line, start, place, past, is_blank, after_spaces, indent}
use Rattle.al_scalar.specs.Line.{is_empty, is_all_blank}
use Rattle.al_scalar.specs.Line.{begins, begins_blank}
use Rattle.al_scalar.specs.Line.{is_blank_or_end, is_comment, is_document_marker, blanks_dropped}
use Rattle.al_scalar.specs.Line.{spaces_dropped}
use Rattle.al_scalar.specs.Places.{first_text, first_end}
use Rattle.al_scalar.specs.Taken.{fault}
use Rattle.al_scalar.specs.declared.faults.FaultAt.{FaultAt}
use Rattle.al_scalar.specs.Plain.{is_flow_indicator, begins_flow_indicator}
use Rattle.al_scalar.specs.Block.{at_end}
use Rattle.al_scalar.specs.Scalar.{ScalarRead}
use Rattle.al_yaml_tree.specs.Reading.{Reading, fails}

-- The whole lines after the first one. There is always a line left: after the file's last line, its
-- empty end.
abbrev pub whole_lines : List Line → List Line
whole_lines [] = []
whole_lines (l ∷ ls) = if l.last then at_end l else ls

-- The next content line of the document: its indent, and the lines from its first character on.
pub data Next : Type 0 where
  ended : Next
  at_line : ℕ → List Line → Next

-- a blank line, or a comment (6.6)
abbrev pub is_skipped : List Cell → Bool
is_skipped text = is_all_blank text || is_comment text

-- the whole lines from the first one on that is neither, or else the file's end
abbrev pub text_line : List Line → List Line
text_line [] = []
text_line (l ∷ ls) =
    let below = text_line ls in
    if is_skipped l.text then (if l.last then at_end l else below) else l ∷ ls

-- whether the file ends after such lines or a gap
abbrev pub is_file_end : List Line → Bool
is_file_end ls = is_empty (first_text ls)

-- The first content line of whole lines. A document marker ends the document (9.1.2), and there is
-- no tab between the indent and the content (6.1).
abbrev pub content_line : List Line → Result Next FaultAt
content_line ls =
    let left = spaces_dropped ls in
    if is_document_marker (first_text ls) then Ok ended
    else (if begins (ascii "\t") (first_text left) then fault yaml.TabInIndentation (start left)
    else Ok (at_line (indent (first_text ls)) left))

abbrev pub content : List Line → Result Next FaultAt
content ls = let left = text_line ls in if is_file_end left then Ok ended else content_line left

-- only blanks, and a comment after a blank
abbrev pub ends_line : List Cell → Bool
ends_line text = is_all_blank text || (begins_blank text && is_comment text)

-- Nothing else may follow a node on its line. Returns the whole lines left.
abbrev pub line_ended : List Line → Result (List Line) FaultAt
line_ended ls = if ends_line (first_text ls) then Ok (whole_lines ls)
    else fault yaml.UnexpectedCharacter (start (blanks_dropped ls))

-- the dash of a block sequence's entry (8.2.1)
abbrev pub is_dash : List Cell → Bool
is_dash [] = false
is_dash (c ∷ cs) = (c.0 == ascii "-") && is_blank_or_end cs

-- the first tab among the leading blanks
abbrev pub tab_among : List Cell → Option ℕ
tab_among cs = let rest = after_spaces cs in then_some (begins (ascii "\t") rest) (place rest 0)

-- What a node's first character forbids, in both contexts: tags, explicit keys, and what begins no
-- node.
abbrev pub is_reserved : ℕ → Bool
is_reserved b =
    (b == ascii ",") || (b == ascii "]") || (b == ascii "}") || (b == ascii "%") || (b == ascii "@")
    || (b == ascii "`")

-- alone says whether a blank or the line's end follows the character
abbrev pub start_fault : ℕ → Bool → Option YamlCode
start_fault b alone =
    if b == ascii "!" then Some yaml.Tag
    else (if (b == ascii "?") && alone then Some yaml.ExplicitKey
    else (if (b == ascii ":") && alone then Some yaml.UnexpectedCharacter
    else (if is_reserved b then Some yaml.UnexpectedCharacter else None)))

abbrev pub block_fault : List Cell → Option YamlCode
block_fault [] = None
block_fault (c ∷ cs) = start_fault c.0 (is_blank_or_end cs)

-- in a flow collection also these; closed says whether a flow indicator follows the character
abbrev pub is_flow_misplaced : ℕ → Bool → Bool → Bool
is_flow_misplaced b alone closed =
    if (b == ascii "|") || (b == ascii ">") || (b == ascii "#") then true
    else (if b == ascii "-" then alone
    || closed else ((b == ascii "?") || (b == ascii ":")) && closed)

abbrev pub flow_fault : List Cell → Option YamlCode
flow_fault [] = None
flow_fault (c ∷ cs) =
    let misplaced = is_flow_misplaced c.0 (is_blank_or_end cs) (begins_flow_indicator cs) in
    option_or (start_fault c.0 (is_blank_or_end cs)) (if misplaced then
    Some yaml.UnexpectedCharacter else None)

-- continues if the first character is allowed
abbrev pub unless_code : {A : Type 0} → Option YamlCode → ℕ → Reading A → Reading A
unless_code None at r = r
unless_code (Some code) at r = fails code at

abbrev pub is_flow_start : List Cell → Bool
is_flow_start cs = begins (ascii "[") cs || begins (ascii "{") cs

abbrev pub starts_quoted : List Cell → Bool
starts_quoted cs = begins (ascii "'") cs || begins (ascii "\"") cs

-- the indicator of an anchor (6.9.2) or of an alias (7.1)
abbrev pub is_property : List Cell → Bool
is_property cs = begins (ascii "&") cs || begins (ascii "*") cs

-- the name after the indicator (6.9.2, ns-anchor-name), up to a blank, the line's end or a flow
-- indicator
abbrev pub anchor_cells : List Cell → List Cell
anchor_cells cs = take (prefix_len (λ (c : Cell). not (is_blank c || is_flow_indicator c.0)) cs) cs

-- where a name ends
abbrev pub ends_name : List Cell → Bool
ends_name cs = is_blank_or_end cs || begins_flow_indicator cs

abbrev pub anchor_name : List Line → List ℕ
anchor_name ls = map (λ (c : Cell). c.0) (anchor_cells (drop 1 (first_text ls)))

-- the lines after the name of an anchor or alias
abbrev pub after_name : List Line → List Line
after_name ls = past (length (anchor_cells (drop 1 (first_text ls))) + 1) ls

abbrev pub has_no_name : List Line → Bool
has_no_name ls = is_empty (anchor_cells (drop 1 (first_text ls)))

-- Whether both lists begin in the same line.
abbrev pub same_line : List Line → List Line → Bool
same_line xs ys = first_end xs == first_end ys

-- the number of characters before the offset
abbrev pub characters : ℕ → List Cell → ℕ
characters end [] = 0
characters end (c ∷ cs) =
    let more = characters end cs in
    if nat_le end c.1 then 0 else (if begins_char c.0 then more + 1 else more)

-- A key has at most 1,024 characters (7.4, implicit keys).
abbrev pub is_short_key : List Line → ScalarRead → Bool
is_short_key ls r = nat_le (characters r.scalar.span.end (first_text ls)) longest_key

-- and it is on one line
abbrev pub is_simple_key : List Line → ScalarRead → Bool
is_simple_key ls r = same_line ls r.left && is_short_key ls r
