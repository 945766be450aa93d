-- Where what was read lies, and what is open then.
use Rattle.std.specs.Prelude.{◌≡◌, ◌≤◌, ℕ, [], Result, MatchResult}
use Rattle.al_scalar.specs.declared.faults.FaultAt.{FaultAt}
use Rattle.al_yaml_parts.specs.Reads.{IsStopInside}
use Rattle.al_yaml_parts.specs.Stacks.{OpenCollections}
use Rattle.al_yaml_parts.specs.declared.faults.ReadError.{ReadError}

-- What was read lies where it must, or reading stops at a fault in a file of this size.
abbrev pub LiesOrStops : {A : Type 0} → ℕ → (A → Type 0) → Result A ReadError → Type 0
LiesOrStops size lies result = MatchResult result lies (IsStopInside size)

-- the same where memory can't run out
abbrev pub LiesOrFails : {A : Type 0} → ℕ → (A → Type 0) → Result A FaultAt → Type 0
LiesOrFails size lies result = MatchResult result lies (λ f. f.at ≤ size)

-- What was read lies there, and the same collections are open as before.
pub record LiesInStack {A : Type 0} (lies : A → Type 0) (before after : OpenCollections)
    (x : A) : Type 0 where
  pub there : lies x
  pub same : after ≡ before

-- What is said of a place holds, and no collection is open.
pub record IsOutside (Here : Type 0) (now : OpenCollections) : Type 0 where
  pub here : Here
  pub outside : now.flows ≡ []
  pub none : now.blocks ≡ []
