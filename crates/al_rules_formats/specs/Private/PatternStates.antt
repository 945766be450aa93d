-- The states of the code that reads a filter pattern, for private contracts. `Patterns` defines
-- what a pattern is, and `proofs/PatternLemmas` proves that the two agree.
use Rattle.std.specs.Prelude.{ℕ, List, [], ◌∷◌, Bool, true, false, ◌==◌, nat_lt, if◌then◌else◌}
use Rattle.std.specs.Prelude.{Option, Some, None, option_and_then}
use Rattle.al_base.specs.Ascii.{ascii}
use Rattle.al_rules_formats.specs.Patterns.{is_mark}
use Rattle.al_rules_formats.specs.declared.patterns.State.{State}
use Rattle.al_rules_formats.specs.declared.patterns.State.TheVariants.{FirstItem, AfterItem}
use Rattle.al_rules_formats.specs.declared.patterns.State.TheVariants.{AfterEscape, ClassFirst}
use Rattle.al_rules_formats.specs.declared.patterns.State.TheVariants.{ClassNext, ClassLow}
use Rattle.al_rules_formats.specs.declared.patterns.State.TheVariants.{ClassDash}

-- the transition outside of a class, after an item or not
abbrev pub outside : Bool → ℕ → Option State
outside is_after c =
    if c == ascii "\\" then Some AfterEscape
    else if c == ascii "[" then Some ClassFirst
    else if is_mark c then (if is_after then Some AfterItem else None)
    else Some AfterItem

-- the transition on a character; none if the character isn't allowed there
abbrev pub read : State → ℕ → Option State
read FirstItem c = outside false c
read AfterItem c = outside true c
read AfterEscape c = Some AfterItem
read ClassFirst c = if c == ascii "]" then None else Some (ClassLow c)
read ClassNext c = if c == ascii "]" then Some AfterItem else Some (ClassLow c)
read (ClassLow a) c = if c == ascii "]" then Some AfterItem else if c == ascii "-"
    then Some (ClassDash a) else Some (ClassLow c)
read (ClassDash a) c = if c == ascii "]" then Some AfterItem else if nat_lt c a then None
    else Some ClassNext

abbrev pub read_all : State → List ℕ → Option State
read_all s [] = Some s
read_all s (c ∷ cs) = option_and_then (λ next. read_all next cs) (read s c)

-- whether a state is accepting: nothing is open
abbrev pub is_done : Option State → Bool
is_done (Some AfterItem) = true
is_done _ = false
