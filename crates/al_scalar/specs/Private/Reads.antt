-- What a reader of one style returns, compared with its definition on lines.
use Rattle.std.specs.Prelude.{◌≡◌, ◌≤◌, ℕ, List, length, Result, Ok, Err}
use Rattle.al_scalar.specs.Places.{lines_at}
use Rattle.al_scalar.specs.Taken as lines
use Rattle.al_scalar.specs.declared.reads.Taken.{Taken}
use Rattle.al_scalar.specs.declared.faults.FaultAt.{FaultAt}

-- what was read of the bytes is what the definition takes from the lines
abbrev pub Gives : List ℕ → Result lines.Taken FaultAt → Result Taken FaultAt → Type 0
Gives bytes asked (Ok t) =
    asked ≡ Ok (record { text = t.text; end = t.end; left = lines_at bytes t.next })
Gives bytes asked (Err f) = asked ≡ Err (record { code = f.code; at = f.at })

-- the end of the scalar, the start of the remaining lines, and a fault's offset are within the file
-- and in this order
abbrev pub StaysWithin : List ℕ → ℕ → Result Taken FaultAt → Type 0
StaysWithin bytes at (Ok t) = (at ≤ t.end) × (t.end ≤ t.next) × (t.next ≤ length bytes)
StaysWithin bytes at (Err f) = (at ≤ f.at) × (f.at ≤ length bytes)
