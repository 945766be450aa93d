-- Each position at or after the end of the text has the offset of the scalar's end.
use Rattle.std.proofs.Common.{◌≡◌, ℕ, ◌≤◌, ap, inl, inr, length, min, sym, ◌∙◌, arith}
use Rattle.std.proofs.lemmas.Bool.{cases_lt}
use Rattle.std.proofs.lemmas.List.{length-map}
use Rattle.al_scalar.proofs.Locating.{offset_or-end}
use Rattle.al_scalar.specs.Scalar.{Scalar, offset_of, text_of}

pub same_end : (s : Scalar) (i : ℕ) → length (text_of s) ≤ i → offset_of s (length (text_of s)) ≡ offset_of s i
same_end s i h =
    let e = length-map s.cells (λ c. c.0) in
    offset_or-end s.cells s.span.end (length (text_of s)) (omega (arith, e)) ∙ sym (offset_or-end s.cells s.span.end i (omega (arith, e, h)))

-- An index cut off at the end of the text has the same offset.
pub offset_by_end : (s : Scalar) (i : ℕ) → offset_of s (min i (length (text_of s))) ≡ offset_of s i
offset_by_end s i = elim (cases_lt i (length (text_of s))) [
  | inl below ↦ let same : min i (length (text_of s)) ≡ i = omega (arith, below) in ap (offset_of s) same
  | inr past ↦ let same : min i (length (text_of s)) ≡ length (text_of s) = omega (arith, past) in ap (offset_of s) same ∙ same_end s i past
]
