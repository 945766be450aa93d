-- A scalar is after the offset at which its lines begin and before the remaining lines; its fault is within the file.
use Rattle.std.proofs.Common.{ℕ, ◌≤◌, List, arith, Result, Ok, Err}
use Rattle.al_scalar.specs.Line.{Line, start}
use Rattle.al_scalar.specs.Plain.{Context}
use Rattle.al_scalar.specs.Scalar.{ScalarRead, scalar_at}
use Rattle.al_scalar.specs.declared.faults.FaultAt.{FaultAt}
use Rattle.al_scalar.proofs.PlacedLemmas.{IsPlacedRead, scalar-placed, placed-wider}
use Rattle.al_scalar.proofs.Standing.{Stand, start-in}
use Rattle.al_yaml_tree.specs.Node.{scalar_node}
use Rattle.al_yaml_tree.specs.Spans.{IsPlacedIn}

-- the scalar is placed at `low` or later, and the remaining lines follow it
pub record ReadIn (size low : ℕ) (r : ScalarRead) : Type 0 where
  pub placed : IsPlacedIn size low r.scalar.span.end (scalar_node r)
  pub left : Stand size r.scalar.span.end r.left

module _ (size : ℕ) where
  -- P holds for a value; a fault is within the file
  abbrev pub Answers : {A : Type 0} → (A → Type 0) → Result A FaultAt → Type 0
  Answers P (Ok x) = P x
  Answers P (Err e) = e.at ≤ size

  pub answers-also : {A : Type 0} (P Q : A → Type 0) (r : Result A FaultAt) → ((x : A) → P x → Q x) → Answers P r → Answers Q r
  answers-also P Q (Ok x) f h = f x h
  answers-also P Q (Err e) f h = h

  read-in : (low : ℕ) (r : Result ScalarRead FaultAt) → IsPlacedRead size low r → Answers (ReadIn size low) r
  read-in low (Ok r) h = record {
    placed = (
      record { from = h.1; ordered = h.2; to = omega arith },
      placed-wider (start r.left) size _ (start-in size r.scalar.span.end r.left h.3) h.0,
    );
    left = h.3;
  }
  read-in low (Err e) h = h

  pub scalar-in : (p : Context) (low : ℕ) (ls : List Line) → Stand size low ls → Answers (ReadIn size low) (scalar_at p ls)
  scalar-in p low ls h = read-in low (scalar_at p ls) (scalar-placed size p low ls h)
