-- What the path of a file in a folder is: parts with single slashes between them, none of them `.`
-- or `..`.
use Rattle.std.specs.Prelude.{ℕ, Bool, codes, ◌||◌, ◌==◌, nat_lt, List, [], ◌∷◌, length}
use Rattle.std.specs.Prelude.{slice_index, Option, None, Some, if◌then◌else◌}
use Rattle.std.specs.Char.{is_ascii_control}
use Rattle.std.specs.List.{list_any, slice_split}
use Rattle.std.specs.Str.{bytes_eq}
use Rattle.al_base.specs.Ascii.{ascii}
use Rattle.al_base.specs.Limits.{longest_path}
use Rattle.al_base.specs.declared.paths.PathFault.{PathFault}
use Rattle.al_base.specs.declared.paths.PathFault.TheVariants.{Empty, Absolute, BadPart, BadByte}
use Rattle.al_base.specs.declared.paths.PathFault.TheVariants.{TooLong}

-- the parts between slashes
abbrev pub parts : List ℕ → List (List ℕ)
parts path = slice_split (λ b. b == ascii "/") path

abbrev pub bad_part : List ℕ → Bool
bad_part part = list_any (bytes_eq part) ([] ∷ codes "." ∷ codes ".." ∷ [])

abbrev pub is_bad_byte : ℕ → Bool
is_bad_byte b = is_ascii_control b || b == ascii "\\"

-- the lowest of P1 to P5 that applies
abbrev pub path_fault_of : List ℕ → Option PathFault
path_fault_of path =
    if length path == 0 then Some Empty else
    if slice_index path 0 == ascii "/" then Some Absolute else
    if list_any bad_part (parts path) then Some BadPart else
    if list_any is_bad_byte path then Some BadByte else
    if nat_lt longest_path (length path) then Some TooLong else None
