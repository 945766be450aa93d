-- The end of a block scalar's header.
use Rattle.al_base.specs.declared.codes.YamlCode.TheVariants.{WrongBlockHeader}
use Rattle.std.proofs.Common.{◌≡◌, ◌≢◌, ℕ, suc, ◌+◌, ◌<◌, ◌≤◌, List, ◌∷◌, ◌++◌, length, slice_index, refl, ap, subst, ◌∙◌, true, false, Ok, Err, eq-eqb}
use Rattle.std.proofs.lemmas.Bool.{ne_eqb}
use Rattle.std.proofs.Math.Bool.{and-false}
use Rattle.al_scalar.specs.Line.{after_blanks, begins_blank}
use Rattle.al_scalar.specs.Block.{header_end}
use Rattle.al_scalar.specs.declared.header.Header.{Header}
use Rattle.al_scalar.specs.Places.{first_text, lines_at}
use Rattle.al_scalar.specs.LineEnds.{cells_between, with_cells_before, AreBlank, IsBlankByte, IsLineEnd}
use Rattle.al_scalar.proofs.LineLemmas.{cells_between-front}
use Rattle.al_scalar.proofs.LineCells.{run_at, text-line_end, is_blank-yes, is_blank-no, IsInside}
use Rattle.al_scalar.proofs.RestLemmas.{solid_text}
use Rattle.al_scalar.proofs.BlockLemmas.{begins-cell}

-- after blanks
module _ (bytes : List ℕ) (at solid : ℕ) (inside : solid ≤ length bytes) (b : AreBlank (cells_between bytes at solid))
    (e : lines_at bytes at ≡ with_cells_before (cells_between bytes at solid) (lines_at bytes solid))
    (n : solid < length bytes → IsBlankByte (slice_index bytes solid) → ⊥) (h : Header) where
  pub header-ended : IsLineEnd bytes solid → header_end h (first_text (lines_at bytes at)) ≡ Ok h
  header-ended k = rw (solid_text bytes at solid inside e b n ∙ text-line_end bytes solid inside k) refl

  module _ (here : IsInside bytes solid) where
    after-solid : after_blanks (first_text (lines_at bytes at)) ≡ (slice_index bytes solid, solid) ∷ first_text (lines_at bytes (solid + 1))
    after-solid = solid_text bytes at solid inside e b n ∙ begins-cell bytes solid here

    pub header-other : slice_index bytes solid ≢ 35 → header_end h (first_text (lines_at bytes at)) ≡ Err (record { code = WrongBlockHeader; at = solid })
    header-other m = rw (after-solid, ne_eqb (slice_index bytes solid) 35 m, and-false (begins_blank (first_text (lines_at bytes at)))) refl

    pub header-close : at ≡ solid → header_end h (first_text (lines_at bytes at)) ≡ Err (record { code = WrongBlockHeader; at = solid })
    header-close same =
        let none : begins_blank (first_text (lines_at bytes at)) ≡ false = ap (λ i. begins_blank (first_text (lines_at bytes i))) same
        ∙ ap begins_blank (begins-cell bytes solid here) ∙ is_blank-no (slice_index bytes solid, solid) (n here.inside) in
        rw (after-solid, none) refl

    pub header-comment : at < solid → slice_index bytes solid ≡ 35 → header_end h (first_text (lines_at bytes at)) ≡ Ok h
    header-comment less m =
        let r = run_at bytes at solid (cells_between bytes at solid) e in
        let front = cells_between-front bytes at solid less in
        let blank : AreBlank ((slice_index bytes at, at) ∷ cells_between bytes (suc at) solid) = subst AreBlank front b in
        let some : begins_blank (first_text (lines_at bytes at)) ≡ true = ap begins_blank (r.text ∙ ap (λ cs. cs ++ first_text (lines_at bytes solid)) front)
        ∙ is_blank-yes (slice_index bytes at, at) blank.0 in
        rw (after-solid, some, eq-eqb (slice_index bytes solid) 35 m) refl
