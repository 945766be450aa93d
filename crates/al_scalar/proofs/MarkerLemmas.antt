-- Tests of the byte at an offset, and of document markers.
use Rattle.std.proofs.Common.{◌≡◌, ℕ, ◌+◌, ◌≤◌, List, [], ◌∷◌, length, drop, slice_index, refl, sym, ap, ◌∙◌, arith, Bool, true, false, ◌==◌, ◌&&◌}
use Rattle.std.proofs.lemmas.Bool.Decides.{nat_tests}
use Rattle.al_scalar.specs.Line.{Cell, is_blank_or_end, begins, is_marker}
use Rattle.al_scalar.specs.Places.{text_at}
use Rattle.al_scalar.specs.Plain.{Context, ends_key, is_value_colon}
use Rattle.al_scalar.specs.LineEnds.{IsLineEnd}
use Rattle.al_scalar.proofs.LineCells.{text-line_end, never}
use Rattle.al_scalar.proofs.PlainLemmas.{text_at-cell}

-- ---- the byte at an offset

module _ (bytes : List ℕ) (i b : ℕ) (inside : i ≤ length bytes) where
  pub begins-end : IsLineEnd bytes i → false ≡ begins b (text_at bytes i)
  begins-end k = sym (ap (begins b) (text-line_end bytes i inside k))

  pub begins-cell_at : (IsLineEnd bytes i → ⊥) → (slice_index bytes i == b) ≡ begins b (text_at bytes i)
  begins-cell_at k = sym (ap (begins b) (text_at-cell bytes i inside k))

  pub begins-inside : true ≡ begins b (text_at bytes i) → IsLineEnd bytes i → ⊥
  begins-inside h k = never (begins-end k ∙ sym h)

module _ (bytes : List ℕ) (i : ℕ) (inside : i ≤ length bytes) (p : Context) where
  pub colon-ends : true ≡ begins 58 (text_at bytes i) → (r : Bool) → r ≡ ends_key p (text_at bytes (i + 1)) → r ≡ is_value_colon p (text_at bytes i)
  colon-ends colon r h =
      let cell = text_at-cell bytes i inside (begins-inside bytes i 58 inside colon) in
      h ∙ ap (λ b. b && ends_key p (text_at bytes (i + 1))) (colon ∙ ap (begins 58) cell) ∙ sym (ap (is_value_colon p) cell)

-- ---- document markers

marker-is : (b : ℕ) (t : List Cell) → is_marker b t ≡ (begins b t && (begins b (drop 1 t) && (begins b (drop 1 (drop 1 t)) && is_blank_or_end (drop 1 (drop 1 (drop 1 t))))))
marker-is b [] = refl
marker-is b (c ∷ []) = grind (arith, nat_tests)
marker-is b (c ∷ d ∷ []) = grind (arith, nat_tests)
marker-is b (c ∷ d ∷ e ∷ cs) = grind (arith, nat_tests)

module _ (bytes : List ℕ) (i b : ℕ) (inside : i ≤ length bytes) (one : true ≡ begins b (text_at bytes i)) where
  after : (i : ℕ) → i ≤ length bytes → true ≡ begins b (text_at bytes i) → drop 1 (text_at bytes i) ≡ text_at bytes (i + 1)
  after i inside h = ap (drop 1) (text_at-cell bytes i inside (begins-inside bytes i b inside h))

  pub marker_at-second : false ≡ begins b (text_at bytes (i + 1)) → false ≡ is_marker b (text_at bytes i)
  marker_at-second h = sym (marker-is b (text_at bytes i) ∙ rw (sym one, after i inside one, sym h) refl)

  module _ (in_second : i + 1 ≤ length bytes) (two : true ≡ begins b (text_at bytes (i + 1))) where
    after_second : drop 1 (text_at bytes (i + 1)) ≡ text_at bytes (i + 2)
    after_second = let next : i + 1 + 1 ≡ i + 2 = omega arith in after (i + 1) in_second two ∙ ap (text_at bytes) next

    pub marker_at-third : false ≡ begins b (text_at bytes (i + 2)) → false ≡ is_marker b (text_at bytes i)
    marker_at-third h = sym (marker-is b (text_at bytes i) ∙ rw (sym one, after i inside one, sym two, after_second, sym h) refl)

    pub marker_at-all : (x : Bool) → i + 2 ≤ length bytes → true ≡ begins b (text_at bytes (i + 2)) → x ≡ is_blank_or_end (text_at bytes (i + 3)) → x ≡ is_marker b (text_at bytes i)
    marker_at-all x in_third three h =
        let next : i + 2 + 1 ≡ i + 3 = omega arith in
        let after_third : drop 1 (text_at bytes (i + 2)) ≡ text_at bytes (i + 3) = after (i + 2) in_third three ∙ ap (text_at bytes) next in
        h ∙ sym (marker-is b (text_at bytes i) ∙ rw (sym one, after i inside one, sym two, after_second, sym three, after_third) refl)
