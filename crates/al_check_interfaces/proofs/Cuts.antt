-- The loop that looks for the byte which separates a REF from the parts before it: one more byte of the text.
use Rattle.std.specs.Prelude.{◌≡◌, ℕ, ◌+◌, ◌-◌, ◌<◌, ◌≤◌, ◌==◌, Bool, false, ◌&&◌, ◌||◌, List, [], ◌∷◌, ◌++◌, drop, take, length, get_or, slice_range}
use Rattle.std.proofs.Common.{arith, ap, cond, sym, refl, ◌∙◌, append_assoc, append-nil}
use Rattle.std.proofs.Math.Bool.{and-true}
use Rattle.std.proofs.lemmas.List.{drop_more, get_or-drop, length-drop, take_all, take_more}
use Rattle.std.proofs.lemmas.List.Folds.{list_all-append}
use Rattle.std.specs.List.{enumerate_from, list_all, list_any, onto_first}
use Rattle.al_base.specs.Ascii.{ascii}
use Rattle.al_base.specs.Paths.{parts}
use Rattle.al_check_interfaces.specs.Forms.{is_cut, is_cut_at, is_some_text}

pub all_more : (ds : List (List ℕ)) (l : List ℕ) → list_all is_some_text (ds ++ l ∷ []) ≡ (list_all is_some_text ds && is_some_text l)
all_more ds l = list_all-append is_some_text ds (l ∷ []) ∙ ap (λ b. list_all is_some_text ds && b) (and-true (is_some_text l))

-- prepends bytes to the first part
abbrev pub onto : List ℕ → List (List ℕ) → List (List ℕ)
onto [] ps = ps
onto (b ∷ bs) ps = onto_first b (onto bs ps)

onto_empty : (last : List ℕ) (ps : List (List ℕ)) → onto last ([] ∷ ps) ≡ last ∷ ps
onto_empty [] ps = refl
onto_empty (b ∷ bs) ps = ap (onto_first b) (onto_empty bs ps)

onto_more : (last : List ℕ) (b : ℕ) (ps : List (List ℕ)) → onto last (onto_first b ps) ≡ onto (last ++ b ∷ []) ps
onto_more [] b ps = refl
onto_more (c ∷ cs) b ps = ap (onto_first c) (onto_more cs b ps)

-- The bytes give the parts `done` and the beginning `last` of another part, whatever bytes follow.
abbrev pub ArePassed : List ℕ → List (List ℕ) → List ℕ → Type 0
ArePassed bytes done last = (rest : List ℕ) → parts (bytes ++ rest) ≡ done ++ onto last (parts rest)

module _ (text : List ℕ) (i : ℕ) (done : List (List ℕ)) (start : ℕ) (room : i < length text) (passed : ArePassed (take i text) done (slice_range text start i)) where
  abbrev byte : ℕ
  byte = get_or text i 0

  abbrev last : List ℕ
  last = slice_range text start i

  one_more : (rest : List ℕ) → parts (take (i + 1) text ++ rest) ≡ done ++ onto last (parts (byte ∷ rest))
  one_more rest = ap (λ l. parts (l ++ rest)) (take_more text i 0 room) ∙ ap parts (append_assoc (take i text) (byte ∷ []) rest) ∙ passed (byte ∷ rest)

  -- a slash ends the last part
  pub slash_passed : (more : List (List ℕ)) (from : ℕ) → byte ≡ ascii "/" → more ≡ done ++ last ∷ [] → from ≡ i + 1 → ArePassed (take (i + 1) text) more (slice_range text from (i + 1))
  slash_passed more from is m f rest =
      let none : (i + 1) - from ≡ 0 = omega arith in
      one_more rest ∙ ap (λ b. done ++ onto last (parts (b ∷ rest))) is ∙ ap (λ l. done ++ l) (onto_empty last (parts rest)) ∙ sym (append_assoc done (last ∷ []) (parts rest))
      ∙ (λ j. sym m j ++ onto (take (sym none j) (drop from text)) (parts rest))

  -- another byte extends the last part
  pub other_passed : start ≤ i → (byte == ascii "/") ≡ false → ArePassed (take (i + 1) text) done (slice_range text start (i + 1))
  other_passed below other rest =
      let long : i - start < length (drop start text) = omega (arith, below, room, length-drop start text) in
      let there : start + (i - start) ≡ i = omega (arith, below) in
      let count : (i + 1) - start ≡ (i - start) + 1 = omega (arith, below) in
      let longer : slice_range text start (i + 1) ≡ last ++ byte ∷ [] =
      ap (λ n. take n (drop start text)) count ∙ take_more (drop start text) (i - start) 0 long
      ∙ ap (λ x. last ++ x ∷ []) (get_or-drop start text (i - start) 0 ∙ ap (λ n. get_or text n 0) there) in
      one_more rest ∙ ap (λ t. done ++ onto last (cond t ([] ∷ parts rest) (onto_first byte (parts rest)))) other
      ∙ ap (λ l. done ++ l) (onto_more last byte (parts rest)) ∙ ap (λ l. done ++ onto l (parts rest)) (sym longer)

  -- whether the byte at `i`, or a later one, is such a separator
  pub cuts_from : (test : List (List ℕ) → Bool) (before : List (List ℕ)) (cut : Bool) → before ≡ done ++ last ∷ [] → is_cut test before byte (slice_range text (i + 1) (length text)) ≡ cut →
      list_any (is_cut_at test text) (enumerate_from i (drop i text)) ≡ (cut || list_any (is_cut_at test text) (enumerate_from (i + 1) (drop (i + 1) text)))
  cuts_from test before cut are is =
      let all : parts (take i text) ≡ before = ap parts (sym (append-nil (take i text))) ∙ passed [] ∙ ap (λ l. done ++ l) (onto_empty last []) ∙ sym are in
      let long : length (drop (i + 1) text) ≤ length text - (i + 1) = omega (arith, length-drop (i + 1) text) in
      let rest : drop (i + 1) text ≡ slice_range text (i + 1) (length text) = sym (take_all (length text - (i + 1)) (drop (i + 1) text) long) in
      let here : is_cut_at test text (i, byte) ≡ cut = (λ j. is_cut test (all j) byte (rest j)) ∙ is in
      ap (λ l. list_any (is_cut_at test text) (enumerate_from i l)) (drop_more text i 0 room)
      ∙ ap (λ t. t || list_any (is_cut_at test text) (enumerate_from (i + 1) (drop (i + 1) text))) here
