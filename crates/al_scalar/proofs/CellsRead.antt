-- Decoding the cells of a line: a cell is kept, left out if it is ASCII, or begins an escape. The rest is after what was decoded.
use Rattle.std.proofs.Common.{◌≡◌, ℕ, ◌+◌, ◌<◌, List, [], ◌∷◌, ◌++◌, map, refl, sym, ap, subst, arith, append_assoc, append-nil, encode_utf8}
use Rattle.std.proofs.lemmas.Bool.Decides.{nat_tests}
use Rattle.std.proofs.lemmas.List.{length-map}
use Rattle.std.proofs.lemmas.Str.{IsUtf8-append, IsUtf8-encode, IsUtf8-nil, length-encode, len_utf8_bounds}
use Rattle.std.specs.Char.{IsScalar}
use Rattle.std.specs.Prelude.{IsUtf8}
use Rattle.al_scalar.specs.Line.{Cell, Line, cut, place, is_blank, after_blanks}
use Rattle.al_scalar.specs.Offsets.{AreClimbing, AreRising}
use Rattle.al_scalar.specs.Quoted.{character_cells}
use Rattle.al_scalar.proofs.CellRuns.{drop-front}
use Rattle.al_scalar.proofs.OffsetLemmas.{choose, climbing-after, climbing-lower}
use Rattle.al_scalar.proofs.TakenLemmas.{IsFrom, IsRest, AreLeft, from-cell, from-join, from-none, from-wider, left-cut, left-first}
use Rattle.al_scalar.proofs.Utf8Lemmas.{bytes_of, split-before, split-after}
use Rattle.al_scalar.proofs.Utf8Texts.{IsText, text-join, one-ascii}

-- `text` is decoded from the cells, and `rest` remains: this keeps UTF-8, after any bytes p, and the order of offsets.
pub record Reads (cs text rest : List Cell) : Type 0 where
  pub utf8 : (p : List ℕ) → IsUtf8 (p ++ bytes_of cs) → IsUtf8 (p ++ bytes_of text) × IsText rest
  pub offsets : (low end : ℕ) → AreClimbing low end cs → IsFrom ⊥ low (place rest end) text × AreClimbing (place rest end) end rest

pub reads-none : Reads [] [] []
reads-none = record { utf8 = λ p u. (u, IsUtf8-nil); offsets = λ low end h. (from-none h, omega arith) }

-- an ASCII cell that remains, with all after it
pub reads-here : (c : Cell) (cs : List Cell) → c.0 < 128 → Reads (c ∷ cs) [] (c ∷ cs)
reads-here c cs a = record {
  utf8 = λ p u. let s = split-before p c.0 (bytes_of cs) a u in (subst IsUtf8 (sym (append-nil p)) s.0, s.1);
  offsets = λ low end h. (from-none h.0, (omega arith, h.1));
}

module _ {text rest : List Cell} where
  pub reads-kept : (c : Cell) (cs : List Cell) → Reads cs text rest → Reads (c ∷ cs) (c ∷ text) rest
  reads-kept c cs h = record {
    utf8 = λ p u.
        let k = h.utf8 (p ++ c.0 ∷ []) (subst IsUtf8 (sym (append_assoc p (c.0 ∷ []) (bytes_of cs))) u) in
        (subst IsUtf8 (append_assoc p (c.0 ∷ []) (bytes_of text)) k.0, k.1);
    offsets = λ low end o. let k = h.offsets (c.1 + 1) end o.1 in (from-join (from-cell o.0 (λ u. absurd u)) k.0, k.1);
  }

  pub reads-left_out : (c : Cell) (cs : List Cell) → c.0 < 128 → Reads cs text rest → Reads (c ∷ cs) text rest
  reads-left_out c cs a h = record {
    utf8 = λ p u.
        let s = split-before p c.0 (bytes_of cs) a u in
        let k = h.utf8 [] (split-after c.0 (bytes_of cs) a s.1) in
        (IsUtf8-append p (bytes_of text) s.0 k.0, k.1);
    offsets = λ low end o. h.offsets low end (climbing-after low end c cs o);
  }

  -- an ASCII cell after the first one is left out
  pub reads-second : (c d : Cell) (cs : List Cell) → c.0 < 128 → d.0 < 128 → Reads (c ∷ cs) text rest → Reads (c ∷ d ∷ cs) text rest
  reads-second c d cs a b h = record {
    utf8 = λ p u.
        let s = split-before p c.0 (bytes_of (d ∷ cs)) a u in
        let after = split-after d.0 (bytes_of cs) b (split-after c.0 (bytes_of (d ∷ cs)) a s.1) in
        h.utf8 p (IsUtf8-append p (bytes_of (c ∷ cs)) s.0 (IsUtf8-append (c.0 ∷ []) (bytes_of cs) (one-ascii c.0 a) after));
    offsets = λ low end o. h.offsets low end (o.0, climbing-lower (d.1 + 1) (c.1 + 1) end cs (omega (arith, o.1.0)) o.1.1);
  }

  -- a character in place of an ASCII cell
  pub reads-written : (c : Cell) (cs : List Cell) (code : ℕ) → c.0 < 128 → IsScalar code → Reads cs text rest → Reads (c ∷ cs) (character_cells c.1 code ++ text) rest
  reads-written c cs code a v h = record {
    utf8 = λ p u.
        let s = split-before p c.0 (bytes_of cs) a u in
        let k = h.utf8 [] (split-after c.0 (bytes_of cs) a s.1) in
        let written = subst IsUtf8 (sym (bytes-at (encode_utf8 code))) (IsUtf8-encode code v) in
        (IsUtf8-append p (bytes_of (character_cells c.1 code ++ text)) s.0 (text-join (character_cells c.1 code) text written k.0), k.1);
    offsets = λ low end o. let k = h.offsets (c.1 + 1) end o.1 in (from-join (from-wider o.0 (omega arith) written-from) k.0, k.1);
  }
    where
      bytes-at : (bs : List ℕ) → bytes_of (map (λ b. (b, c.1)) bs) ≡ bs
      bytes-at [] = refl
      bytes-at (b ∷ bs) = ap (λ l. b ∷ l) (bytes-at bs)

      rising-at : (bs : List ℕ) → AreRising c.1 (c.1 + 1) (map (λ b. (b, c.1)) bs)
      rising-at [] = omega arith
      rising-at (b ∷ bs) = (omega arith, omega arith, rising-at bs)

      written-from : IsFrom ⊥ c.1 (c.1 + 1) (character_cells c.1 code)
      written-from = record {
        rising = rising-at (encode_utf8 code);
        size = omega (arith, length-map {A = ℕ} {B = Cell} (encode_utf8 code) (λ b. (b, c.1)), length-encode code, len_utf8_bounds code);
        text = λ u. absurd u;
      }

  pub reads-blanks : (cs : List Cell) → Reads (after_blanks cs) text rest → Reads cs text rest
  reads-blanks [] h = h
  reads-blanks (c ∷ cs) h =
      choose (λ (t : List Cell). Reads t text rest → Reads (c ∷ cs) text rest) (is_blank c)
      (λ e k. reads-left_out c cs (grind (arith, nat_tests)) (reads-blanks cs k)) (λ _ k. k)
      (subst (λ (t : List Cell). Reads t text rest) (drop-front is_blank c cs) h)

  -- the text is from the remaining part of a line, and so is the rest
  module _ {U : Type 0} where
    reads-rest : {low end : ℕ} (cs : List Cell) → Reads cs text rest → IsRest U low end cs → IsFrom U low (place rest end) text × IsRest U (place rest end) end rest
    reads-rest {low} {end} cs h r =
        let k = h.offsets low end r.climbing in (
          record { rising = k.0.rising; size = k.0.size; text = λ u. (h.utf8 [] (r.text u)).0 },
          record { climbing = k.1; text = λ u. (h.utf8 [] (r.text u)).1 },
        )

    pub reads-line : {size low : ℕ} (l : Line) (ls : List Line) → Reads l.text text rest → AreLeft size U low (l ∷ ls)
        → IsFrom U low (place rest l.end) text × AreLeft size U (place rest l.end) (cut rest l ls)
    reads-line {size} {low} l ls h k =
        let r = reads-rest l.text h (left-first k) in
        (r.0, left-cut r.1 k)
