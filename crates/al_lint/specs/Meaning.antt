-- What a linter computes, as the definitions of folders use it.
use Rattle.std.specs.Prelude.{◌≡◌, ℕ, ◌≤◌, Bool, List, [], ◌∷◌, Option, bytes_eq, map}
use Rattle.std.specs.List.{list_any}
use Rattle.al_base.specs.Counted.{count_after}
use Rattle.al_base.specs.declared.faults.Fault.{Fault}
use Rattle.al_lint.specs.declared.lint.Target.{Target}
use Rattle.al_lint.specs.declared.lint.Target.TheVariants.{Only, FirstOf}

-- I is the type of interfaces
pub record Meaning (I : Type 0) : Type 0 where
  -- which paths it accepts
  pub accepts : List ℕ → Bool
  -- the calls of a file, in order, by its path and bytes
  pub calls : List ℕ → List ℕ → List Target
  -- the interface that callers of a file see, by its path and bytes
  pub interface : List ℕ → List ℕ → I
  -- the faults of a file in order, each once, by its path, its bytes and the answer of each of its
  -- calls
  pub faults : List ℕ → List ℕ → List (Option I) → List Fault
  -- the fault of each call of a file, to be reported if the call is on a call cycle, in order, by
  -- its path and bytes
  pub sites : List ℕ → List ℕ → List Fault

-- the candidates of a call, in order
abbrev pub candidates : Target → List (List ℕ)
candidates (Only p) = p ∷ []
candidates (FirstOf p q) = p ∷ q ∷ []

-- whether a path is a candidate of one of these calls
abbrev pub is_candidate : List Target → List ℕ → Bool
is_candidate ts c = list_any (λ t. list_any (bytes_eq c) (candidates t)) ts

-- Answers of a folder's calls, one for each in order: calls with the same target have the same
-- answer.
pub record AreAnswers {I : Type 0} (targets : List Target) (given : List (Option I)) : Type 0 where
  pub answer : Target → Option I
  pub are : given ≡ map answer targets

-- a count has risen by at most this many
abbrev pub IsUpTo : ℕ → ℕ → ℕ → Type 0
IsUpTo old new most = (old ≤ new) × (new ≤ count_after old most)
