-- Plain scalars (7.3.3).
use Rattle.std.specs.Prelude.{ℕ, List, [], ◌∷◌, ◌++◌, Bool, true, false, not, ◌&&◌, ◌||◌, ◌==◌}
use Rattle.std.specs.Prelude.{nat_le, if◌then◌else◌, Result, Ok}
use Rattle.al_base.specs.Ascii.{ascii}
use Rattle.al_base.specs.declared.codes.YamlCode.TheVariants as yaml
use Rattle.al_scalar.specs.Line.{Cell, Line, place, cut, is_blank, after_blanks, indent, is_empty}
use Rattle.al_scalar.specs.Line.{begins, is_blank_or_end, is_comment, is_document_marker}
use Rattle.al_scalar.specs.Taken.{Taken, before, fault, folded_break}
use Rattle.al_scalar.specs.declared.faults.FaultAt.{FaultAt}

-- The context of a scalar (6.1, 7.3.3): in a flow collection, or in block context, where its
-- continuation lines have at least this indent, one more than that of the enclosing collection.
pub data Context : Type 0 where
  flow : Context
  block : ℕ → Context

abbrev pub is_flow : Context → Bool
is_flow flow = true
is_flow (block within) = false

-- , [ ] { } (5.3, c-flow-indicator)
abbrev pub is_flow_indicator : ℕ → Bool
is_flow_indicator b = (b == ascii ",") || (b == ascii "[") || (b == ascii "]") || (b == ascii "{")
    || (b == ascii "}")

abbrev pub begins_flow_indicator : List Cell → Bool
begins_flow_indicator [] = false
begins_flow_indicator (c ∷ cs) = is_flow_indicator c.0

-- what may follow the colon between a key and its value
abbrev pub ends_key : Context → List Cell → Bool
ends_key p cs = is_blank_or_end cs || (is_flow p && begins_flow_indicator cs)

-- the colon between a key and its value
abbrev pub is_value_colon : Context → List Cell → Bool
is_value_colon p [] = false
is_value_colon p (c ∷ cs) = (c.0 == ascii ":") && ends_key p cs

-- Whether the scalar ends before these cells; after_blank says whether a blank or a break is before
-- them.
abbrev pub ends_plain : Context → Bool → List Cell → Bool
ends_plain p after_blank cs =
    is_empty cs || is_value_colon p cs || (begins (ascii "#") cs && after_blank)
    || (is_flow p && begins_flow_indicator cs)

-- A part of a line: the cells of the scalar without trailing blanks, and the cells after them.
abbrev pub plain_part : Context → Bool → List Cell → List Cell × List Cell
plain_part p after_blank [] = ([], [])
plain_part p after_blank (c ∷ cs) =
    let more = plain_part p (is_blank c) cs in
    if ends_plain p after_blank (c ∷ cs) then ([], c ∷ cs)
    else (if is_blank c && is_empty more.0 then ([], c ∷ cs) else (c ∷ more.0, more.1))

-- whether a line that isn't all blanks continues the scalar
abbrev pub continues : Context → List Cell → Bool
continues flow text = not (ends_plain flow true (after_blanks text))
continues (block within) text =
    nat_le within (indent text) && not (is_comment text) && not (is_document_marker text)

-- a scalar that ends before the rest of a line, without its text
abbrev pub ended_before : List Cell → Line → List Line → Taken
ended_before rest l ls = record { text = []; end = place rest l.end; left = cut rest l ls }

-- The lines after a part of the scalar that ends with a break: their text, folded, and where the
-- scalar ends. Empty lines belong to it only if a line that continues it follows; empties are the
-- breaks of the empty lines since then.
abbrev pub plain_lines : Context → Taken → ℕ → List ℕ → List Line → Result Taken FaultAt
plain_lines p here break empties [] = Ok here
plain_lines p here break empties (l ∷ ls) =
    let text = after_blanks l.text in
    let part = plain_part p true text in
    let rest = after_blanks part.1 in
    let there = ended_before part.1 l ls in
    let with_empty = plain_lines p here break (empties ++ l.end ∷ []) ls in
    let below = plain_lines p there l.end [] ls in
    if is_empty text then with_empty
    else (if not (continues p l.text) then Ok here
    else (if not (is_flow p) && is_value_colon p rest then
    fault yaml.UnexpectedCharacter (place rest l.end)
    else before (folded_break break empties ++ part.0) (if is_empty rest then below else Ok there)))

-- a plain scalar, whose first character begins the first line
abbrev pub plain : Context → List Line → Result Taken FaultAt
plain p [] = fault yaml.UnexpectedCharacter 0
plain p (l ∷ ls) =
    let part = plain_part p false l.text in
    let here = ended_before part.1 l ls in
    let below = plain_lines p here l.end [] ls in
    before part.0 (if is_empty (after_blanks part.1) then below else Ok here)
