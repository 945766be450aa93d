-- Scalars, and decoded bytes with their offsets, from the forms in which they are stored.
use Rattle.std.specs.Prelude.{ℕ, ◌^◌, ◌+◌, ◌-◌, ◌<◌, ◌≤◌, List, [], ◌∷◌, take}
use Rattle.al_base.specs.Spans.{span}
use Rattle.al_base.specs.declared.faults.Span.{Span}
use Rattle.al_scalar.specs.Line.{Cell}
use Rattle.al_scalar.specs.Scalar.{Scalar}
use Rattle.al_scalar.specs.Private.Segments.{first_run, cells_from, AreInRange}
use Rattle.al_scalar.specs.declared.scalars.ScalarForm as scalar
use Rattle.al_scalar.specs.declared.styles.Style.{Style}
use Rattle.al_scalar.specs.declared.styles.Style.TheVariants as style
use Rattle.al_scalar.specs.declared.texts.ShortText.{ShortText}
use Rattle.al_scalar.specs.declared.texts.Form.{Form}
use Rattle.al_scalar.specs.declared.texts.Form.TheVariants.{Short, Long}

abbrev pub short_cells : ShortText → List Cell
short_cells s = cells_from 0 (take s.count s.bytes) (first_run s.first ∷ [])

abbrev pub cells_of : Form → List Cell
cells_of (Short s) = short_cells s
cells_of (Long t) = t.value

-- a short text fits its buffer, and each of its offsets fits 32 bits
abbrev pub IsSound : Form → Type 0
IsSound (Short s) = (s.count ≤ 23) × AreInRange (short_cells s)
IsSound (Long t) = Unit {0}

-- the span of a short text with so many bytes before and after it
abbrev pub short_span : ℕ → ShortText → Span
short_span around s = span (s.first - around) (s.first + s.count + around)

-- the number of bytes of each quote around a scalar
abbrev pub quote_len : Style → ℕ
quote_len style.SingleQuoted = 1
quote_len style.DoubleQuoted = 1
quote_len _ = 0

abbrev pub scalar_of : scalar.ScalarForm → Scalar
scalar_of (scalar.TheVariants.Short t kind) =
    record {
      style = kind.style;
      class = kind.class;
      cells = short_cells t;
      span = short_span (quote_len kind.style) t;
    }
scalar_of (scalar.TheVariants.Long t kind at) =
    record { style = kind.style; class = kind.class; cells = t.value; span = at }

-- a short text is sound, and so is its span
abbrev pub IsSoundScalar : scalar.ScalarForm → Type 0
IsSoundScalar (scalar.TheVariants.Short t kind) =
    IsSound (Short t) × (quote_len kind.style ≤ t.first)
    × (t.first + t.count + quote_len kind.style < 2 ^ 32)
IsSoundScalar (scalar.TheVariants.Long t kind at) = Unit {0}
