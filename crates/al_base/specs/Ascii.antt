-- The bytes of ASCII characters.
use Prim.Native.Char.{Char, code}
use Rattle.std.specs.Prelude.{Bool, ℕ, ◌==◌, ◌||◌}

-- the byte of a character
abbrev pub ascii : Char → ℕ
ascii c = code c

abbrev pub is_sign : ℕ → Bool
is_sign b = b == ascii "+" || b == ascii "-"
