-- Terms of contracts for offsets: what is left from one on, and faults by their offset.
use Rattle.std.specs.Prelude.{◌≡◌, ℕ, ◌<◌, ◌≤◌, List, length, Option, Some, None, Result, Ok, Err}
use Rattle.al_scalar.specs.Line.{Line}
use Rattle.al_scalar.specs.Offsets.{IsPlaced}
use Rattle.al_scalar.specs.Places.{lines_at}
use Rattle.al_scalar.specs.declared.scalars.ScalarRead.{ScalarRead}
use Rattle.al_yaml_tree.specs.Content as content
use Rattle.al_scalar.specs.declared.faults.FaultAt.{FaultAt}
use Rattle.al_yaml_parts.specs.declared.content.Next.{Next}
use Rattle.al_yaml_parts.specs.declared.content.Next.TheVariants as next

-- the definition's result for the lines is what was found in the bytes
abbrev pub Shows : {A B : Type 0} → (A → B) → Result B FaultAt → Result A FaultAt → Type 0
Shows seen asked (Ok x) = asked ≡ Ok (seen x)
Shows seen asked (Err f) = asked ≡ Err f

abbrev pub next_of : List ℕ → Next → content.Next
next_of bytes next.Ended = content.ended
next_of bytes (next.Line indent at) = content.at_line indent (lines_at bytes at)

-- a line's first character is in the file, after the line's indent, and not before the offset from
-- which the search began
abbrev pub IsLineFrom : ℕ → ℕ → Next → Type 0
IsLineFrom from size next.Ended = Unit {0}
IsLineFrom from size (next.Line indent at) = (from ≤ at) × (at ≤ size) × (indent ≤ at)

abbrev pub option_lines : List ℕ → Option ℕ → Option (List Line)
option_lines bytes None = None
option_lines bytes (Some at) = Some (lines_at bytes at)

-- the offset after a colon, if there is one
abbrev pub IsColon : Option (List Line) → List ℕ → ℕ → Option ℕ → Type 0
IsColon asked bytes at None = asked ≡ None
IsColon asked bytes at (Some next) =
    (asked ≡ Some (lines_at bytes next)) × (at < next) × (next ≤ length bytes)

-- a scalar begins at an offset and ends no later than the next one to read, which is in the file;
-- its text is in it
pub record IsReadInside (bytes : List ℕ) (at : ℕ) (r : ScalarRead) : Type 0 where
  pub start : r.scalar.span.start ≡ at
  pub from : at ≤ r.scalar.span.end
  pub end : r.scalar.span.end ≤ r.next
  pub inside : r.next ≤ length bytes
  pub placed : IsPlaced (length bytes) r.scalar
