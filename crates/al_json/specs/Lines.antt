-- Lines of answers.
use Rattle.std.specs.Prelude.{◌≡◌, ℕ, List, [], ◌∷◌, ◌++◌, All, Option, false}
use Rattle.std.specs.Char.{is_ascii_control}
use Rattle.std.specs.Io.KnownBytes.{Appends}

-- a text on one line: it has no control byte, so no line feed
abbrev pub IsOnOneLine : List ℕ → Type 0
IsOnOneLine text = All (λ b. is_ascii_control b ≡ false) text

-- The bytes, where known, grow by one line.
pub record HasOneMoreLine (old new : Option (List ℕ)) : Type 0 where
  pub line : List ℕ
  pub one : IsOnOneLine line
  pub added : Appends old new (line ++ 10 ∷ [])
