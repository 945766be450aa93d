-- What is true of each scalar of a tree is true of each place that is checked.
use Rattle.std.proofs.Common.{◌≡◌, ◌≤◌, ℕ, zero, suc, List, [], ◌∷◌, length, map, arith, Bool, true, false, cond}
use Rattle.std.specs.Prelude.{All}
use Rattle.std.proofs.lemmas.List.{length-map}
use Rattle.std.proofs.lemmas.List.Elements.{All-same}
use Rattle.al_scalar.specs.Line.{Cell}
use Rattle.al_scalar.specs.Offsets.{AreRising, IsFrom, IsPlaced, is_block, reach}
use Rattle.al_scalar.specs.Scalar.{Scalar, offset_or, text_of}
use Rattle.al_yaml_tree.specs.Node.{Node}
use Rattle.al_yaml_tree.specs.Spans.{AreFrom, IsLaid}
use Rattle.al_yaml_tree.specs.Texts.{HasTexts}
use Rattle.al_tree.proofs.Kept.{all_seen}
use Rattle.al_tree.specs.declared.files.FileKind.{FileKind}
use Rattle.al_check_places.specs.Places.{place_of, places_of}
use Rattle.al_check_places.specs.declared.walk.Place as rust
use Rattle.al_check_places.proofs.Scalars.{each_place, places_have_texts, places_lie}
use Rattle.al_check_expressions.specs.Contents.{HasRoom}
use Rattle.al_check_expressions.specs.Inside.{IsReadable, IsThere}

-- ---- bounds of the offsets in a scalar

below : (cs : List Cell) (low high end most : ℕ) → AreRising low high cs → high ≤ most → end ≤ most → (i : ℕ) → offset_or cs end i ≤ most
below [] low high end most r h e i = e
below (c ∷ cs) low high end most r h e zero = omega (arith, r.1, h)
below (c ∷ cs) low high end most r h e (suc i) = below cs c.1 high end most r.2 h e i

either_small : (t : Bool) (high end most : ℕ) → high ≤ most → end ≤ most → cond t high end ≤ most
either_small true high end most h e = h
either_small false high end most h e = e

pub readable : (s : Scalar) → IsPlaced 1048576 s → s.span.end ≤ 1048576 → (length (text_of s) ≤ 4194304) × HasRoom s
readable s p h =
    let far : reach 1048576 s.style s.span.end ≤ 1048576 = either_small (is_block s.style) 1048576 s.span.end 1048576 (omega arith) h in
    let many = p.small in
    let same = length-map s.cells (λ c. c.0) in (
      omega (arith, far, many, same),
      (λ i. let there = below s.cells s.span.start (reach 1048576 s.style s.span.end) s.span.end 1048576 p.rising far h i in omega (arith, there)),
    )

-- ---- all places of a tree that was read

places_readable : (kind : FileKind) (root : Node) → IsLaid 1048576 root → HasTexts root → All IsReadable (places_of kind root)
places_readable kind root w t i d within =
    let lies = places_lie kind 1048576 root w i d within in
    let r = readable _ lies.placed (lies.inside).inside in
    record { utf8 = places_have_texts kind root t i d within; small = r.0; room = r.1 }

-- each place that the code found is readable
pub all_readable : (ps : List rust.Place) (kind : FileKind) (root : Node) → map place_of ps ≡ places_of kind root → IsLaid 1048576 root → HasTexts root → All (λ p. IsReadable (place_of p)) ps
all_readable ps kind root e w t = all_seen place_of IsReadable ps (All-same IsReadable _ _ e (places_readable kind root w t))

-- each place is within the file
pub places_there : (size : ℕ) (kind : FileKind) (root : Node) → IsLaid size root → AreFrom size root → All (IsThere size) (places_of kind root)
places_there size kind root w f i d within =
    let lies = places_lie kind size root w i d within in
    record {
      span = lies.inside;
      placed = lies.placed;
      from = each_place (IsFrom size) (λ at X. X) (λ X at h. h) (λ p. IsFrom size p.word) (λ k way only s h. h) kind root f i d within;
    }
