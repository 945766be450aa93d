-- Properties of each scalar that is checked, from which those of its faults follow.
use Rattle.std.specs.Prelude.{ℕ, ◌≤◌, length, IsUtf8}
use Rattle.al_base.specs.Spans.{LiesIn}
use Rattle.al_base.specs.Limits.{largest_file, longest_text}
use Rattle.al_scalar.specs.Offsets.{IsFrom, IsPlaced}
use Rattle.al_scalar.specs.Scalar.{text_of}
use Rattle.al_check_places.specs.Places.{Place}
use Rattle.al_check_expressions.specs.Contents.{HasRoom}

-- its text is UTF-8 with at most 4,194,304 bytes, and there is an offset after each byte
pub record IsReadable (p : Place) : Type 0 where
  pub utf8 : IsUtf8 (text_of p.word)
  pub small : length (text_of p.word) ≤ longest_text
  pub room : HasRoom p.word

-- the scalar of a place lies in a file with this many bytes, and each byte of its text comes from
-- there
pub record IsThere (size : ℕ) (p : Place) : Type 0 where
  pub span : LiesIn size p.word.span
  pub placed : IsPlaced largest_file p.word
  pub from : IsFrom size p.word
