-- What `read_scalar` answers.
use Rattle.std.specs.Prelude.{◌≡◌, ◌≤◌, ℕ, List, length, Result, Ok, Err}
use Rattle.al_scalar.specs.Characters.{character_at}
use Rattle.al_scalar.specs.Line.{Line}
use Rattle.al_scalar.specs.declared.faults.FaultAt.{FaultAt}
use Rattle.al_scalar.specs.Plain as plain
use Rattle.al_scalar.specs.Scalar as value
use Rattle.al_scalar.specs.Places.{lines_at}
use Rattle.al_scalar.specs.declared.scalars.ScalarContext.{ScalarContext}
use Rattle.al_scalar.specs.declared.scalars.ScalarContext.TheVariants as places
use Rattle.al_scalar.specs.declared.scalars.ScalarRead.{ScalarRead}
use Rattle.al_scalar.specs.declared.faults.YamlFault.{YamlFault}

-- what is read of the lines at a place
abbrev pub reading_at : ScalarContext → List Line → Result value.ScalarRead FaultAt
reading_at (places.BlockFromIndent indent) ls = value.scalar_at (plain.block indent) ls
reading_at places.Flow ls = value.scalar_at plain.flow ls
reading_at places.Empty ls = Ok (value.empty_at ls)

abbrev pub read_of : List ℕ → ScalarRead → value.ScalarRead
read_of bytes r = record { scalar = r.scalar; left = lines_at bytes r.next }

-- a fault as the definitions have it: its code and where its span starts
abbrev pub placed_fault : YamlFault → FaultAt
placed_fault f = record { code = f.code; at = f.span.start }

abbrev pub GivesScalar : List ℕ → ℕ → ScalarContext → Result ScalarRead YamlFault → Type 0
GivesScalar bytes at place (Ok r) = reading_at place (lines_at bytes at) ≡ Ok (read_of bytes r)
GivesScalar bytes at place (Err f) =
    (reading_at place (lines_at bytes at) ≡ Err (placed_fault f))
    × (f.span ≡ character_at bytes f.span.start)

-- the scalar begins at the offset and ends no later than the next one to read, which is in the
-- file; a fault isn't before the offset
abbrev pub LiesAfter : List ℕ → ℕ → Result ScalarRead YamlFault → Type 0
LiesAfter bytes at (Ok r) = (r.scalar.span.start ≡ at) × (at ≤ r.scalar.span.end)
    × (r.scalar.span.end ≤ r.next) × (r.next ≤ length bytes)
LiesAfter bytes at (Err f) = (at ≤ f.span.start) × (f.span.start ≤ length bytes)
