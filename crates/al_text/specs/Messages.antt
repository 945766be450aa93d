-- What a report prints of one fault: PATH:LINE:COL: MESSAGE [KIND], with the words of the table of
-- codes.
use Rattle.std.specs.Prelude.{ℕ, List, [], ◌++◌, codes, decimal, slice_get, unwrap_or}
use Rattle.al_text.specs.Wordings.{code_row}
use Rattle.al_base.specs.Positions.{line_at, column_at}
use Rattle.al_base.specs.Printable.{printable}
use Rattle.al_base.specs.declared.codes.Code.{Code}
use Rattle.al_base.specs.declared.faults.Fault.{Fault}

-- the argument i, as printed
abbrev pub argument : List (List ℕ) → ℕ → List ℕ
argument args i = printable (unwrap_or (slice_get args i) [])

abbrev pub message : Code → List (List ℕ) → List ℕ
message code args = let row = code_row code in
    row.head ++ argument args 0 ++ row.middle ++ argument args 1 ++ row.tail

-- PATH:LINE:COL: MESSAGE [KIND]
abbrev pub fault_line : List ℕ → List ℕ → Fault → List ℕ
fault_line path bytes fault =
    path ++ codes ":" ++ decimal (line_at bytes fault.span.start) ++ codes ":"
    ++ decimal (column_at bytes fault.span.start) ++ codes ": "
    ++ message fault.code fault.args ++ (codes " [" ++ (code_row fault.code).kind ++ codes "]\n")
