-- The bytes that fragments of a report are printed as.
use Rattle.std.specs.Prelude.{ℕ, List, ◌++◌, map, codes}
use Rattle.std.specs.List.{flat_map}
use Rattle.al_base.specs.Printable.{printable}
use Rattle.al_text.specs.Private.Marks.{chars_of, mark_byte}
use Rattle.al_text.specs.declared.printing.Fragment.{Fragment}
use Rattle.al_text.specs.declared.printing.Fragment.TheVariants.{Raw, Shown, Marks}

abbrev pub fragment_bytes : Fragment → List ℕ
fragment_bytes (Raw bytes) = bytes.now
fragment_bytes (Shown text) = printable text.now
fragment_bytes (Marks mark bytes) = map (mark_byte mark) (chars_of bytes.now)

abbrev pub bytes_of_fragments : List Fragment → List ℕ
bytes_of_fragments fragments = flat_map fragment_bytes fragments

-- PATH:LINE:COLUMN: and a space, from these parts
abbrev pub position_text : List ℕ → List ℕ → List ℕ → List ℕ
position_text path line column =
    path ++ codes ":" ++ line ++ codes ":" ++ column ++ codes ": "

-- MESSAGE [KIND] and a line feed
abbrev pub message_line : List ℕ → List ℕ → List ℕ
message_line message kind = message ++ (codes " [" ++ kind ++ codes "]\n")
