-- Lines are cut at character boundaries: the rest of a UTF-8 line is UTF-8.
use Rattle.std.proofs.Common.{◌≡◌, ℕ, suc, ◌+◌, ◌<◌, List, [], ◌∷◌, ◌++◌, length, drop, sym, subst, arith, append_assoc, true, ◌||◌, ◌==◌, not}
use Rattle.std.proofs.lemmas.Bool.{and_parts}
use Rattle.std.proofs.lemmas.Bool.Decides.{nat_tests}
use Rattle.std.proofs.lemmas.Str.{IsUtf8-nil}
use Rattle.std.specs.Prelude.{IsUtf8}
use Rattle.al_base.specs.Ascii.{ascii}
use Rattle.al_scalar.specs.Line.{Cell, is_blank, indent, after_blanks, after_spaces, begins, is_marker}
use Rattle.al_scalar.specs.Offsets.{AreClimbing}
use Rattle.al_scalar.specs.Plain.{Context, is_flow_indicator, ends_key, is_value_colon}
use Rattle.al_scalar.proofs.CellRuns.{drop-front, take-front}
use Rattle.al_scalar.proofs.OffsetLemmas.{choose, climbing-drop}
use Rattle.al_scalar.proofs.Utf8Lemmas.{bytes_of, split-before, split-after}
use Rattle.al_scalar.proofs.Utf8Texts.{IsText}
use Rattle.al_yaml_tree.specs.Content.{is_dash, is_flow_start, is_property, anchor_cells}

-- ---- after one character, and after spaces

pub dash-text : (cs : List Cell) → is_dash cs ≡ true → IsText cs → IsText (drop 1 cs)
dash-text [] e u = u
dash-text (c ∷ cs) e u = split-after c.0 (bytes_of cs) (grind (arith, nat_tests)) u

pub bracket-text : (cs : List Cell) → is_flow_start cs ≡ true → IsText cs → IsText (drop 1 cs)
bracket-text [] e u = u
bracket-text (c ∷ cs) e u = split-after c.0 (bytes_of cs) (grind (arith, nat_tests)) u

pub spaces-text : (cs : List Cell) → IsText cs → IsText (after_spaces cs)
spaces-text [] u = u
spaces-text (c ∷ cs) u =
    subst IsText (sym (drop-front (λ (d : Cell). d.0 == ascii " ") c cs))
    (choose IsText (c.0 == ascii " ") (λ e. spaces-text cs (split-after c.0 (bytes_of cs) (grind (arith, nat_tests)) u)) (λ _. u))

pub climbing-spaces : (low end : ℕ) (cs : List Cell) → AreClimbing low end cs → AreClimbing low end (after_spaces cs)
climbing-spaces low end cs h = climbing-drop (indent cs) low end cs h

-- ---- colons

-- A colon is no blank.
pub solid-colon : (cs : List Cell) → begins (ascii ":") cs ≡ true → begins (ascii ":") (after_blanks cs) ≡ true
solid-colon [] e = e
solid-colon (c ∷ cs) e =
    subst (λ (t : List Cell). begins (ascii ":") t ≡ true) (sym (drop-front is_blank c cs))
    (choose (λ (t : List Cell). begins (ascii ":") t ≡ true) (is_blank c) (λ b. grind (arith, nat_tests)) (λ _. e))

pub value-colon : (p : Context) (cs : List Cell) → is_value_colon p cs ≡ true → begins (ascii ":") cs ≡ true
value-colon p [] e = e
value-colon p (c ∷ cs) e = (and_parts (c.0 == ascii ":") (ends_key p cs) e).0

-- ---- names of anchors

name-text : (p : List ℕ) (cs : List Cell) → IsUtf8 (p ++ bytes_of cs) → IsText (drop (length (anchor_cells cs)) cs)
name-text p [] u = IsUtf8-nil
name-text p (c ∷ cs) u =
    subst (λ (name : List Cell). IsText (drop (length name) (c ∷ cs))) (sym (take-front (λ (d : Cell). not (is_blank d || is_flow_indicator d.0)) c cs))
    (choose (λ (name : List Cell). IsText (drop (length name) (c ∷ cs))) (not (is_blank c || is_flow_indicator c.0))
    (λ _. name-text (p ++ c.0 ∷ []) cs (subst IsUtf8 (sym (append_assoc p (c.0 ∷ []) (bytes_of cs))) u))
    (λ e. (split-before p c.0 (bytes_of cs) (grind (arith, nat_tests)) u).1))

pub property-text : (cs : List Cell) → is_property cs ≡ true → IsText cs → IsText (drop (length (anchor_cells (drop 1 cs)) + 1) cs)
property-text [] e u = IsUtf8-nil
property-text (c ∷ cs) e u =
    let same : length (anchor_cells cs) + 1 ≡ suc (length (anchor_cells cs)) = omega arith in
    rw same (name-text [] cs (split-after c.0 (bytes_of cs) (grind (arith, nat_tests)) u))

-- ---- the start of a document

pub marker-text : (b : ℕ) (cs : List Cell) → b < 128 → is_marker b cs ≡ true → IsText cs → IsText (drop 3 cs)
marker-text b [] a e u = IsUtf8-nil
marker-text b (c ∷ []) a e u = IsUtf8-nil
marker-text b (c ∷ d ∷ []) a e u = IsUtf8-nil
marker-text b (c ∷ d ∷ x ∷ cs) a e u =
    let ascii : (c.0 < 128) × (d.0 < 128) × (x.0 < 128) = grind (arith, nat_tests) in
    split-after x.0 (bytes_of cs) ascii.2 (split-after d.0 (bytes_of (x ∷ cs)) ascii.1 (split-after c.0 (bytes_of (d ∷ x ∷ cs)) ascii.0 u))
