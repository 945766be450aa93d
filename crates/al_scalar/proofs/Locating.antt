-- The offsets of a text's cells, as `offset_or` gives them.
use Rattle.std.proofs.Common.{map, ◌^◌, ◌≡◌, ℕ, zero, suc, ◌+◌, ◌<◌, ◌≤◌, List, [], ◌∷◌, length, refl, sym, ap, ◌∙◌, arith}
use Rattle.std.proofs.lemmas.List.{get_or_past, length-map}
use Rattle.al_scalar.specs.Private.Segments.{AreInRange, cells_from, offset_at}
use Rattle.al_scalar.specs.Line.{Cell}
use Rattle.al_scalar.specs.Scalar.{offset_or}
use Rattle.al_scalar.specs.declared.texts.Segment.{Segment}

pub length-cells_from : (k : ℕ) (bs : List ℕ) (ss : List Segment) → length (cells_from k bs ss) ≡ length bs
length-cells_from k [] ss = refl
length-cells_from k (b ∷ bs) ss = ap suc (length-cells_from (suc k) bs ss)

pub offset_or-cells_from : (k : ℕ) (bs : List ℕ) (ss : List Segment) (end i : ℕ) → i < length bs → offset_or (cells_from k bs ss) end i ≡ offset_at ss (k + i)
offset_or-cells_from k [] ss end i h = absurd (omega arith)
offset_or-cells_from k (b ∷ bs) ss end zero h = let e : k + 0 ≡ k = omega arith in rw e refl
offset_or-cells_from k (b ∷ bs) ss end (suc i) h =
    let e : k + suc i ≡ suc k + i = omega arith in
    offset_or-cells_from (suc k) bs ss end i (omega arith) ∙ ap (offset_at ss) (sym e)

pub offset_or-end : (cs : List Cell) (end i : ℕ) → length cs ≤ i → offset_or cs end i ≡ end
offset_or-end cs end i h = get_or_past (map (λ (c : Cell). c.1) cs) i end (omega (arith, h, length-map cs (λ (c : Cell). c.1)))

pub bytes-cells_from : (k : ℕ) (bs : List ℕ) (ss : List Segment) → map (λ (c : Cell). c.0) (cells_from k bs ss) ≡ bs
bytes-cells_from k [] ss = refl
bytes-cells_from k (b ∷ bs) ss = ap (λ cs. b ∷ cs) (bytes-cells_from (suc k) bs ss)

pub offset_or-small : (cs : List Cell) (end i : ℕ) → AreInRange cs → i < length cs → offset_or cs end i < 2 ^ 32
offset_or-small [] end i h l = absurd (omega (arith, l))
offset_or-small (c ∷ cs) end zero h l = h.0
offset_or-small (c ∷ cs) end (suc i) h l = offset_or-small cs end i h.1 (omega (arith, l))

-- The offset by the last run is that of the cell.
pub located : (bs : List ℕ) (ss : List Segment) (cells : List Cell) (found i end : ℕ) → cells_from 0 bs ss ≡ cells → i < length cells → found ≡ offset_at ss i → found ≡ offset_or cells end i
located bs ss cells found i end v h f =
    let long : length cells ≡ length bs = ap length (sym v) ∙ length-cells_from 0 bs ss in
    let index : i ≡ 0 + i = omega arith in
    f ∙ ap (offset_at ss) index ∙ sym (offset_or-cells_from 0 bs ss end i (omega (arith, h, long))) ∙ ap (λ cs. offset_or cs end i) v
