-- What the whole answers, by the collections that are open in it: what is still to be read gives
-- the same answer.
use Rattle.std.specs.Prelude.{◌≡◌, ℕ, suc, ◌+◌, ◌<◌, List, [], ◌∷◌, length, Err}
use Rattle.al_yaml_tree.specs.Node.{Node}
use Rattle.al_yaml_tree.specs.Reading.{Part}
use Rattle.al_yaml_parts.specs.Answers.{Answer}
use Rattle.al_yaml_parts.specs.declared.faults.ReadError.{ReadError}
use Rattle.al_yaml_parts.specs.declared.faults.ReadError.TheVariants as stop

abbrev pub NodeAnswer : Type 0
NodeAnswer = Answer (Part Node)

-- What an open collection answers if what is read in it answers so. Bounds come first: how deep
-- collections nest in it, and how much it still reads; then how many collections are around it.
abbrev pub Goes : Type 0 → Type 0
Goes F = ℕ → ℕ → ℕ → F → NodeAnswer → NodeAnswer

-- What the whole answers if what is read in the innermost of these answers so. Each has a bound on
-- what it still reads.
abbrev pub whole_answer : {F : Type 0} → Goes F → ℕ → List F → List ℕ → NodeAnswer → NodeAnswer
whole_answer goes bound [] ts o = o
whole_answer goes bound (f ∷ fs) [] o = o
whole_answer goes bound (f ∷ fs) (t ∷ ts) o =
    whole_answer goes (suc bound) fs ts (goes bound t (length fs) f o)

-- each bound is more than what is left of the file
abbrev pub AreEnough : {F : Type 0} → ℕ → ℕ → List F → List ℕ → Type 0
AreEnough size at [] ts = Unit {0}
AreEnough size at (f ∷ fs) [] = ⊥
AreEnough size at (f ∷ fs) (t ∷ ts) = (size < t + at) × AreEnough size at fs ts

-- The innermost of these collections, read from an offset on, answers so under two bounds.
pub record IsInnermost {F : Type 0} (goes : Goes F) (size : ℕ) (whole : NodeAnswer)
    (fs : List F) (at : ℕ)
    (answer : ℕ → ℕ → NodeAnswer) : Type 0 where
  pub bound : ℕ
  pub turns : ℕ
  pub rest : List ℕ
  pub room : size < suc bound + at
  pub many : size < turns + at
  pub enough : AreEnough size at fs rest
  pub same : whole_answer goes (suc bound) fs rest (answer bound turns) ≡ whole

-- an answer is a fault, unless memory runs out
abbrev pub WholeStops : NodeAnswer → ReadError → Type 0
WholeStops whole (stop.Fault f) = whole ≡ Err f
WholeStops whole stop.Memory = Unit {0}
