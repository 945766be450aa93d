-- Small faults and spans for worked rows.
use Rattle.std.specs.Prelude.{◌≡◌, ℕ, List, [], ◌∷◌, map}
use Rattle.al_base.specs.FaultLists.{fault_list}
use Rattle.al_base.specs.declared.codes.Code.{Code}
use Rattle.al_base.specs.declared.codes.Code.TheVariants.{Key}
use Rattle.al_base.specs.declared.codes.KeyCode.TheVariants.{Unexpected}
use Rattle.al_base.specs.declared.faults.Fault.{Fault}
use Rattle.al_base.specs.declared.faults.Span.{Span}

abbrev pub at : ℕ → ℕ → Code → List (List ℕ) → Fault
at start end code args =
    record { span = record { start = start; end = end }; code = code; args = args }

abbrev pub span_of : ℕ → ℕ → Span
span_of start end = record { start = start; end = end }

-- an unexpected key, without its name
abbrev pub key_at : ℕ → ℕ → Fault
key_at start end = at start end (Key Unexpected) []

-- Faults with these codes, alike otherwise, are listed in this order.
abbrev pub AreListed : List Code → List Code → Type 0
AreListed given listed =
    fault_list (map (λ code. at 0 1 code []) given) ≡ map (λ code. at 0 1 code []) listed

-- Of two faults that differ only in their codes, the one with the first code is listed first.
abbrev pub IsBefore : Code → Code → Type 0
IsBefore first second = AreListed (second ∷ first ∷ []) (first ∷ second ∷ [])
