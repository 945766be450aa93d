-- Terms of contracts for a file: its length, and the lines from an offset on.
use Rattle.std.specs.Prelude.{ℕ, List, length}
use Rattle.al_scalar.specs.Line.{Line}
use Rattle.al_scalar.specs.Places.{lines_at}
use Rattle.al_yaml_parts.specs.declared.file.File.{File}

abbrev pub size : File → ℕ
size file = length file.bytes.now

abbrev pub left_at : File → ℕ → List Line
left_at file at = lines_at file.bytes.now at
