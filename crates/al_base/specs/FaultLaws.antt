-- Laws of a file's list of faults.
use Rattle.std.specs.Prelude.{◌≡◌, ◌≢◌, List}
use Rattle.std.specs.List.{AllPairs, Contains}
use Rattle.std.specs.List.Sorted.{IsStrictlySortedBy}
use Rattle.std.specs.Cmp.{IsTotalOrder}
use Rattle.std.specs.declared.cmp.Ordering.TheVariants.{Equal}
use Rattle.al_base.specs.FaultLists.{fault_cmp, fault_list}
use Rattle.al_base.specs.declared.faults.Fault.{Fault}

-- The order is total, and only equal faults compare as equal.
abbrev pub OrderTells : Type 0
OrderTells = IsTotalOrder fault_cmp × ((a b : Fault) → fault_cmp a b ≡ Equal → a ≡ b)

-- each fault of a is one of b, and the other way round
abbrev pub SameFaults : List Fault → List Fault → Type 0
SameFaults a b = ((fault : Fault) → Contains a fault → Contains b fault)
    × ((fault : Fault) → Contains b fault → Contains a fault)

-- Each fault is less than all faults after it.
abbrev pub ListIsSorted : Type 0
ListIsSorted = (faults : List Fault) → IsStrictlySortedBy fault_cmp (fault_list faults)

-- No fault is listed twice.
abbrev pub ListHasEachOnce : Type 0
ListHasEachOnce = (faults : List Fault) → AllPairs (λ a b. a ≢ b) (fault_list faults)

-- The list has exactly the given faults.
abbrev pub ListKeepsFaults : Type 0
ListKeepsFaults = (faults : List Fault) → SameFaults faults (fault_list faults)

-- It depends only on which they are.
abbrev pub OneListForSameFaults : Type 0
OneListForSameFaults = (a b : List Fault) → SameFaults a b → fault_list a ≡ fault_list b
