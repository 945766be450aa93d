-- The spans of faults in a file, and the faults of its bytes.
use Rattle.std.specs.Prelude.{◌≡◌, ℕ, ◌+◌, List, if◌then◌else◌, Some}
use Rattle.std.specs.Str.{is_utf8}
use Rattle.al_base.specs.declared.codes.YamlCode.{YamlCode}
use Rattle.al_base.specs.declared.faults.Span.{Span}
use Rattle.al_scalar.specs.Characters.{character_at}
use Rattle.al_yaml_tree.specs.Bytes.{byte_fault}

-- The span of a fault is the character at its offset, and is empty at the file's end. A file that
-- isn't UTF-8 has no characters: its fault's span is one byte.
abbrev pub fault_span : List ℕ → ℕ → Span
fault_span bytes at = if is_utf8 bytes then character_at bytes at
    else record { start = at; end = at + 1 }

abbrev pub IsByteFault : List ℕ → YamlCode → Span → Type 0
IsByteFault bytes code span = (byte_fault bytes ≡ Some (record { code = code; at = span.start }))
    × (span ≡ fault_span bytes span.start)
