-- A scalar that was read is placed as `IsPlaced` says, its text comes from the file, and it is UTF-8 if the file is.
use Rattle.std.proofs.Common.{ℕ, ◌+◌, ◌<◌, ◌≤◌, List, length, drop, subst, arith, Result, Ok, Err, IfOk}
use Rattle.std.proofs.lemmas.List.{length-map}
use Rattle.std.specs.Prelude.{IsUtf8}
use Rattle.al_scalar.specs.ReadScalar.{LiesAfter, read_of}
use Rattle.al_scalar.specs.Private.Contract.{GivesIn}
use Rattle.al_scalar.specs.Line.{Cell}
use Rattle.al_scalar.specs.Offsets.{IsFrom, IsPlaced, is_block, reach}
use Rattle.al_scalar.specs.Plain.{Context}
use Rattle.al_scalar.specs.Scalar.{Scalar, ScalarRead, empty_scalar, text_of}
use Rattle.al_scalar.specs.Places.{lines_at}
use Rattle.al_scalar.specs.declared.faults.FaultAt.{FaultAt}
use Rattle.al_scalar.specs.declared.faults.YamlFault.{YamlFault}
use Rattle.al_scalar.specs.declared.scalars.ScalarRead as code
use Rattle.al_scalar.proofs.OffsetLemmas.{choose, lines-climb}
use Rattle.al_scalar.proofs.PlacedLemmas.{IsPlacedRead, ReadsText, offset-within, scalar-placed, scalar-text}
use Rattle.al_scalar.proofs.RestLemmas.{start-at}
use Rattle.al_scalar.proofs.Standing.{Stand, lines-end}
use Rattle.al_scalar.proofs.Utf8Lemmas.{lines-utf8}

-- a scalar placed in a file, or in a part of one
pub from-placed : (high size : ℕ) (s : Scalar) → high ≤ size → s.span.end ≤ size → IsPlaced high s → IsFrom size s
from-placed high size s a b h i l =
    let most : reach high s.style s.span.end ≤ size = choose (λ (x : ℕ). x ≤ size) (is_block s.style) (λ _. a) (λ _. b) in
    let cells : i < length s.cells = omega (arith, l, length-map s.cells (λ (c : Cell). c.0)) in
    let within = offset-within s.span.start (reach high s.style s.span.end) s.span.end s.cells i h.rising cells in
    omega (arith, within.1, most)

pub from-empty : (size at : ℕ) → IsFrom size (empty_scalar at)
from-empty size at i l = absurd (omega (arith, l))

-- a scalar read from a file
pub record IsReadAt (bytes : List ℕ) (at : ℕ) (r : code.ScalarRead) : Type 0 where
  pub placed : IsPlaced r.next r.scalar
  pub from : IsFrom (length bytes) r.scalar
  pub utf8 : IsUtf8 (drop at bytes) → IsUtf8 (text_of r.scalar)

read-at : (bytes : List ℕ) (at : ℕ) (p : Context) (r : Result code.ScalarRead YamlFault) → GivesIn bytes at p r → LiesAfter bytes at r → IfOk r (IsReadAt bytes at)
read-at bytes at p (Ok r) h k =
    let size = at + length (drop at bytes) in
    let ls = lines_at bytes at in
    let lines : Stand size at ls = (lines-climb at (drop at bytes), lines-end size at (drop at bytes) (omega arith)) in
    let read : IsPlacedRead size at (Ok (read_of bytes r)) = subst (IsPlacedRead size at) h (scalar-placed size p at ls lines) in
    let placed : IsPlaced r.next r.scalar = subst (λ high. IsPlaced high r.scalar) (start-at bytes r.next k.3) read.0 in
    record {
      placed = placed;
      from = from-placed r.next (length bytes) r.scalar k.3 (omega (arith, k.2, k.3)) placed;
      utf8 = λ u.
          let text : ReadsText (read_of bytes r) =
          subst (λ (x : Result ScalarRead FaultAt). IfOk x ReadsText) h (scalar-text size p at ls lines (lines-utf8 at (drop at bytes) u)) in
          text.0;
    }
read-at bytes at p (Err f) h k = tt

pub read-ok : {E : Type 0} (P : code.ScalarRead → Type 0) (bytes : List ℕ) (at : ℕ) (p : Context) (r : Result (Result code.ScalarRead YamlFault) E)
    → ((x : code.ScalarRead) → IsReadAt bytes at x → P x) → IfOk r (λ x. GivesIn bytes at p x) → IfOk r (λ x. LiesAfter bytes at x) → IfOk r (λ x. IfOk x P)
read-ok P bytes at p (Ok (Ok x)) f h k = f x (read-at bytes at p (Ok x) h k)
read-ok P bytes at p (Ok (Err e)) f h k = tt
read-ok P bytes at p (Err e) f h k = tt
