-- What reading a scalar in a context returns, by the definition on lines.
use Rattle.std.specs.Prelude.{◌≡◌, ℕ, List, Result, Ok, Err}
use Rattle.al_scalar.specs.Characters.{character_at}
use Rattle.al_scalar.specs.Places.{lines_at}
use Rattle.al_scalar.specs.Plain as plain
use Rattle.al_scalar.specs.ReadScalar.{placed_fault, read_of}
use Rattle.al_scalar.specs.Scalar as value
use Rattle.al_scalar.specs.declared.faults.YamlFault.{YamlFault}
use Rattle.al_scalar.specs.declared.scalars.ScalarRead.{ScalarRead}

abbrev pub GivesIn : List ℕ → ℕ → plain.Context → Result ScalarRead YamlFault → Type 0
GivesIn bytes at p (Ok r) = value.scalar_at p (lines_at bytes at) ≡ Ok (read_of bytes r)
GivesIn bytes at p (Err f) = (value.scalar_at p (lines_at bytes at) ≡ Err (placed_fault f))
    × (f.span ≡ character_at bytes f.span.start)
