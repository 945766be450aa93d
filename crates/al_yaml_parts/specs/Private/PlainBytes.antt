-- Printable characters (YAML 1.2.2, 5.1) by their bytes in UTF-8.
use Rattle.std.specs.Prelude.{◌≡◌, ℕ, ◌+◌, ◌<◌, List, [], ◌∷◌, slice_index, Bool, true, false, not}
use Rattle.std.specs.Prelude.{◌&&◌, ◌||◌, ◌==◌, nat_le, nat_lt, if◌then◌else◌, Option, Some, None}
use Rattle.al_base.specs.Ascii.{ascii}

-- a byte that is a printable character of ASCII
abbrev pub is_plain : ℕ → Bool
is_plain b = (nat_le 32 b && nat_lt b 127) || (b == ascii "\t") || (b == ascii "\n")
    || (b == ascii "\r")

-- those before an index
abbrev pub ArePlain : List ℕ → ℕ → Type 0
ArePlain bytes n = (k : ℕ) → k < n → is_plain (slice_index bytes k) ≡ true

-- ---- the first character of well-formed bytes

-- after C2: a control other than U+0085
abbrev pub is_control : List ℕ → Bool
is_control [] = false
is_control (b ∷ cs) = nat_lt b 0xa0 && not (b == 0x85)

-- after EF: U+FFFE or U+FFFF
abbrev pub is_noncharacter : List ℕ → Bool
is_noncharacter (b ∷ c ∷ cs) = (b == 0xbf) && nat_le 0xbe c
is_noncharacter _ = false

abbrev pub is_unprintable : List ℕ → Bool
is_unprintable [] = false
is_unprintable (a ∷ bs) =
    (nat_lt a 32 && not ((a == ascii "\t") || (a == ascii "\n") || (a == ascii "\r"))) || (a == 127)
    || ((a == 0xc2) && is_control bs) || ((a == 0xef) && is_noncharacter bs)

-- the offset of the first byte at which such a character begins
abbrev pub unprintable_byte : ℕ → List ℕ → Option ℕ
unprintable_byte at [] = None
unprintable_byte at (b ∷ bs) =
    let more = unprintable_byte (at + 1) bs in
    if is_unprintable (b ∷ bs) then Some at else more
