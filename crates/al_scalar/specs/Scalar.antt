-- One scalar: its style, its class and its decoded bytes with their offsets (7.3, 8.1, 7.2 for the
-- empty node).
use Rattle.std.specs.Prelude.{ℕ, List, [], ◌∷◌, map, true, false, if◌then◌else◌, Result, Ok}
use Rattle.std.specs.Prelude.{slice_index_or}
use Rattle.al_base.specs.Ascii.{ascii}
use Rattle.al_base.specs.declared.codes.YamlCode.TheVariants as yaml
use Rattle.al_scalar.specs.Line.{Cell, Line, start, begins, past}
use Rattle.al_scalar.specs.Taken.{Taken, ◌>>=◌, fault}
use Rattle.al_scalar.specs.declared.faults.FaultAt.{FaultAt}
use Rattle.al_scalar.specs.Plain.{Context, flow, block, is_flow, plain}
use Rattle.al_scalar.specs.Quoted.{single_quoted, double_quoted}
use Rattle.al_scalar.specs.Block.{block_scalar}
use Rattle.al_scalar.specs.Class.{class_of}
use Rattle.al_scalar.specs.declared.styles.Style.{Style}
use Rattle.al_scalar.specs.declared.styles.Style.TheVariants as style
use Rattle.al_scalar.specs.declared.styles.Class.{Class}
use Rattle.al_scalar.specs.declared.styles.Class.TheVariants as class
use Rattle.al_base.specs.Spans.{span}
use Rattle.al_base.specs.declared.faults.Span.{Span}

-- the span is that of the written form; `locate` returns its end for the length of the text
pub record Scalar : Type 0 where
  pub style : Style
  pub class : Class
  pub cells : List Cell
  pub span : Span

-- a scalar that was read, and the lines left
pub record ScalarRead : Type 0 where
  pub scalar : Scalar
  pub left : List Line

-- the class of a plain scalar is that of its text; all others are strings (10.3.2)
abbrev pub class_in : Style → List Cell → Class
class_in style.Plain cs = class_of (map (λ (c : Cell). c.0) cs)
class_in _ cs = class.Str

abbrev pub read_as : Style → ℕ → Result Taken FaultAt → Result ScalarRead FaultAt
read_as style at taken = taken >>= (λ t. Ok (record {
  scalar =
      record { style = style; class = class_in style t.text; cells = t.text; span = span at t.end };
  left = t.left;
}))

-- The first character determines the style (7.3.1, 7.3.2, 8.1); there are no block scalars in flow
-- collections.
abbrev pub style_at : Context → List Cell → Style
style_at p text =
    if begins (ascii "'") text then style.SingleQuoted
    else (if begins (ascii "\"") text then style.DoubleQuoted
    else (if is_flow p then style.Plain
    else (if begins (ascii "|") text then style.Literal
    else (if begins (ascii ">") text then style.Folded else style.Plain))))

abbrev pub within_of : Context → ℕ
within_of flow = 0
within_of (block within) = within

-- what a scalar of a style takes from the lines, which begin with its first character
abbrev pub taken_as : Context → Style → List Line → Result Taken FaultAt
taken_as p style.SingleQuoted ls = single_quoted (start ls) (past 1 ls)
taken_as p style.DoubleQuoted ls = double_quoted (start ls) (past 1 ls)
taken_as p style.Literal ls = block_scalar true (within_of p) ls
taken_as p style.Folded ls = block_scalar false (within_of p) ls
taken_as p style.Plain ls = plain p ls

-- the scalar whose first character begins the lines
abbrev pub scalar_at : Context → List Line → Result ScalarRead FaultAt
scalar_at p [] = fault yaml.UnexpectedCharacter 0
scalar_at p (l ∷ ls) =
    let kind = style_at p l.text in
    read_as kind (start (l ∷ ls)) (taken_as p kind (l ∷ ls))

-- the empty node (7.2) at an offset
abbrev pub empty_scalar : ℕ → Scalar
empty_scalar at = record { style = style.Plain; class = class.Null; cells = []; span = span at at }

abbrev pub empty_at : List Line → ScalarRead
empty_at ls = record { scalar = empty_scalar (start ls); left = ls }

-- the offset of cell i, or the end if there are no more cells
abbrev pub offset_or : List Cell → ℕ → ℕ → ℕ
offset_or cs end i = slice_index_or (map (λ (c : Cell). c.1) cs) i end

abbrev pub offset_of : Scalar → ℕ → ℕ
offset_of s i = offset_or s.cells s.span.end i

abbrev pub text_of : Scalar → List ℕ
text_of s = map (λ (c : Cell). c.0) s.cells
