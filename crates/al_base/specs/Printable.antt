-- Arguments and paths as they are printed, without control bytes.
use Rattle.std.specs.Prelude.{ℕ, List, map, if◌then◌else◌}
use Rattle.std.specs.Char.{is_ascii_control}
use Rattle.al_base.specs.Ascii.{ascii}

-- a byte or a character as it is printed
abbrev pub printable_byte : ℕ → ℕ
printable_byte b = if is_ascii_control b then ascii "?" else b

abbrev pub printable : List ℕ → List ℕ
printable text = map printable_byte text
