-- Folding a break in a quoted scalar (6.5), and where the next text begins.
use Rattle.std.specs.Prelude.{ℕ, List, Bool, true, false, Option, Some, None}
use Rattle.al_scalar.specs.Line.{Line, blanks_dropped}
use Rattle.al_scalar.specs.Private.PlainLines.{text_lines}

-- the lines from the first one that isn't blank, without its leading blanks
abbrev pub solid_lines : List Line → List Line
solid_lines ls = blanks_dropped (text_lines ls)

-- the break if it is to be folded: None if it is escaped
abbrev pub break_of : Bool → ℕ → Option ℕ
break_of true break = None
break_of false break = Some break
