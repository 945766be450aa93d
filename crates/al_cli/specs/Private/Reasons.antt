-- What a run says of a file that it doesn't take.
use Rattle.std.specs.Prelude.{◌≡◌, ◌≢◌, ◌++◌, ◌∷◌, ℕ, List, [], Some, String, map, slice_get}
use Rattle.std.specs.Prelude.{string_bytes}
use Rattle.std.specs.Global.{Global}
use Rattle.al_base.specs.Limits.{most_files}
use Rattle.al_base.specs.Printable.{printable}
use Rattle.al_session.specs.declared.lint.Refused.{Refused}
use Rattle.al_session.specs.declared.lint.Refused.TheVariants as refused
use Rattle.al_cli.specs.declared.disk.DiskError.{DiskError}
use Rattle.al_cli.specs.declared.disk.DiskError.TheVariants.{Unreadable}
use Rattle.al_cli.specs.declared.gathering.Unread.{Unread}
use Rattle.al_cli.specs.declared.gathering.Unread.TheVariants as unread

-- a refusal for this reason, with the path as it is printed; or memory ran out
abbrev pub IsRefusal : List ℕ → Refused → Unread → Type 0
IsRefusal path reason (unread.Refused told why) =
    (string_bytes told ≡ printable path) × (why ≡ reason) × (why ≢ refused.Memory)
IsRefusal path reason (unread.Unreadable told) = ⊥
IsRefusal path reason unread.Memory = Unit {0}

-- that reading failed, with the path as it is printed; or memory ran out
abbrev pub IsFailure : List ℕ → DiskError → Unread → Type 0
IsFailure path cause (unread.Unreadable told) =
    (string_bytes told ≡ printable path) × (cause ≡ Unreadable)
IsFailure path cause (unread.Refused told why) = ⊥
IsFailure path cause unread.Memory = Unit {0}

-- one more path is told, as it is printed
abbrev pub TellsAlso : List (String Global) → List (String Global) → List ℕ → Type 0
TellsAlso old new path =
    map (λ s. string_bytes s) new ≡ map (λ s. string_bytes s) old ++ printable path ∷ []

-- a refusal of the first of these paths for which those before it leave no room
abbrev pub IsTooMany : List (String Global) → Unread → Type 0
IsTooMany paths why =
    (path : String Global) × (slice_get paths most_files ≡ Some path)
    × IsRefusal (string_bytes path) refused.Full why
