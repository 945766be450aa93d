-- The parts of a quoted scalar's lines.
use Rattle.std.proofs.Common.{◌≡◌, ◌≢◌, ℕ, zero, suc, ◌*◌, ◌-◌, ◌+◌, ◌≤◌, List, [], ◌∷◌, ◌++◌, length, map, refl, sym, ap, ◌∙◌, arith, append_assoc}
use Rattle.std.proofs.Common.{true, false, not, ◌==◌, ◌&&◌, cond, inl, inr, Result, Ok, Err, encode_utf8}
use Rattle.std.proofs.lemmas.Grind.{common_steps}
use Rattle.std.proofs.Math.Utf8.{encode}
use Rattle.std.proofs.lemmas.Str.{length-encode, len_utf8_bounds}
use Rattle.al_scalar.specs.Line.{Cell, begins, is_empty}
use Rattle.al_scalar.specs.declared.faults.FaultAt.{FaultAt}
use Rattle.al_scalar.specs.declared.quoted.Quotes.{Quotes}
use Rattle.al_scalar.specs.declared.quoted.Quotes.TheVariants.{Single, Double}
use Rattle.al_scalar.specs.Quoted.{QuotedLine, closed, broken, is_broken, with_cells, with_own, single_part, part_before, own_before}
use Rattle.al_scalar.specs.Quoted.{character_cells, escape_table, digits_table, escape_character, escape_digits, hex_digit, is_scalar_value}
use Rattle.al_scalar.specs.Quoted.{escape, double_part}
use Rattle.std.specs.Map.{lookup}
use Rattle.al_scalar.specs.LineEnds.{AreBlank, IsBlankByte}
use Rattle.al_scalar.specs.Private.QuotedRead.{part_in, IsMarkByte}
use Rattle.al_scalar.proofs.LineCells.{is_blank-yes, is_blank-no}
use Rattle.al_scalar.proofs.OffsetLemmas.{choose, choose-option}
use Rattle.al_scalar.proofs.QuotedLemmas.{is_nothing, gives_nothing}

abbrev pub nothing : QuotedLine
nothing = record { text = []; stop = broken }

-- ---- literal cells

pub part-none : (r : Result QuotedLine FaultAt) → part_before [] r ≡ r
part-none (Ok p) = refl
part-none (Err e) = refl

pub part-two : (xs ys : List Cell) (r : Result QuotedLine FaultAt) → part_before xs (part_before ys r) ≡ part_before (xs ++ ys) r
part-two xs ys (Ok p) = ap (λ t. Ok (record { text = t; stop = p.stop })) (sym (append_assoc xs ys p.text))
part-two xs ys (Err e) = refl

own-some : (c : Cell) (r : Result QuotedLine FaultAt) → gives_nothing r ≡ false → own_before c r ≡ part_before (c ∷ []) r
own-some c (Ok p) h =
    let some : is_nothing p ≡ false = h in
    let own : with_own c p ≡ with_cells (c ∷ []) p = grind (arith, common_steps, some) in
    ap Ok own
own-some c (Err e) h = refl

own-byte : (c : Cell) (r : Result QuotedLine FaultAt) → (IsBlankByte c.0 → ⊥) → own_before c r ≡ part_before (c ∷ []) r
own-byte c (Ok p) h = ap (λ b. Ok (cond (b && is_empty p.text && is_broken p.stop) p (with_cells (c ∷ []) p))) (is_blank-no c h)
own-byte c (Err e) h = refl

own-blank : (c : Cell) → IsBlankByte c.0 → own_before c (Ok nothing) ≡ Ok nothing
own-blank c h = ap (λ b. Ok (cond (b && true && true) nothing (with_cells (c ∷ []) nothing))) (is_blank-yes c h)

single-other : (c : Cell) (cs : List Cell) → c.0 ≢ 39 → single_part (c ∷ cs) ≡ with_own c (single_part cs)
single-other c [] h = grind (arith, common_steps, h)
single-other c (d ∷ cs) h = grind (arith, common_steps, h)

double-other : (c : Cell) (cs : List Cell) → c.0 ≢ 34 → c.0 ≢ 92 → double_part (c ∷ cs) ≡ own_before c (double_part cs)
double-other c cs n m = grind (arith, common_steps, n, m)

part-other : (quotes : Quotes) (c : Cell) (cs : List Cell) → (IsMarkByte quotes c.0 → ⊥) → part_in quotes (c ∷ cs) ≡ own_before c (part_in quotes cs)
part-other Single c cs n = ap Ok (single-other c cs n)
part-other Double c cs n = double-other c cs (λ e. n (inl e)) (λ e. n (inr e))

not_mark : (quotes : Quotes) (b : ℕ) → IsBlankByte b → IsMarkByte quotes b → ⊥
not_mark Single b h m = grind arith
not_mark Double b h m = grind arith

some-before : (cs : List Cell) (r : Result QuotedLine FaultAt) → gives_nothing r ≡ false → gives_nothing (part_before cs r) ≡ false
some-before [] (Ok p) h = h
some-before (c ∷ cs) (Ok p) h = refl
some-before cs (Err e) h = refl

pub part-end : (quotes : Quotes) → part_in quotes [] ≡ Ok nothing
part-end Single = refl
part-end Double = refl

module _ (quotes : Quotes) where
  part-blank : (c : Cell) (cs : List Cell) → IsBlankByte c.0 → part_in quotes (c ∷ cs) ≡ own_before c (part_in quotes cs)
  part-blank c cs h = part-other quotes c cs (not_mark quotes c.0 h)

  -- Blanks at the end of a line give nothing.
  pub part-blanks : (cs : List Cell) → AreBlank cs → part_in quotes cs ≡ Ok nothing
  part-blanks [] h = part-end quotes
  part-blanks (c ∷ cs) h = part-blank c cs h.0 ∙ ap (own_before c) (part-blanks cs h.1) ∙ own-blank c h.0

  -- Blanks before something are kept.
  pub part-run : (run rest : List Cell) → AreBlank run → gives_nothing (part_in quotes rest) ≡ false
      → part_in quotes (run ++ rest) ≡ part_before run (part_in quotes rest)
  part-run [] rest h s = sym (part-none (part_in quotes rest))
  part-run (c ∷ cs) rest h s =
      part-blank c (cs ++ rest) h.0
      ∙ ap (own_before c) (part-run cs rest h.1 s)
      ∙ own-some c (part_before cs (part_in quotes rest)) (some-before cs (part_in quotes rest) s)
      ∙ part-two (c ∷ []) cs (part_in quotes rest)

  pub part-byte : (c : Cell) (cs : List Cell) → (IsBlankByte c.0 → ⊥) → (IsMarkByte quotes c.0 → ⊥)
      → part_in quotes (c ∷ cs) ≡ part_before (c ∷ []) (part_in quotes cs)
  part-byte c cs h k = part-other quotes c cs k ∙ own-byte c (part_in quotes cs) h

-- ---- quotes and escapes

pub single-quote : (c : Cell) (cs : List Cell) → c.0 ≡ 39 → begins 39 cs ≡ false → single_part (c ∷ cs) ≡ record { text = []; stop = closed (c.1 + 1) cs }
single-quote c [] e h = grind (arith, common_steps, e)
single-quote c (d ∷ cs) e h = grind (arith, common_steps, e, h)

pub single-pair : (b at : ℕ) (d : Cell) (cs : List Cell) → b ≡ 39 → d.0 ≡ 39
    → part_in Single ((b, at) ∷ d ∷ cs) ≡ part_before (character_cells at 39) (part_in Single cs)
unfolding encode
single-pair b at d cs e f =
    let pair : single_part ((b, at) ∷ d ∷ cs) ≡ with_cells ((b, at) ∷ []) (single_part cs) = grind (arith, common_steps, e, f) in
    ap Ok pair ∙ ap (λ (b : ℕ). Ok (with_cells ((b, at) ∷ []) (single_part cs))) e

pub double-quote : (c : Cell) (cs : List Cell) → c.0 ≡ 34 → double_part (c ∷ cs) ≡ Ok (record { text = []; stop = closed (c.1 + 1) cs })
double-quote c cs e = rw e refl

pub double-escape : (c : Cell) (cs : List Cell) → c.0 ≡ 92 → double_part (c ∷ cs) ≡ escape c.1 cs
double-escape c cs e = rw e refl

-- ---- a cell that is no blank gives something

map-some : (at : ℕ) (bs : List ℕ) → 1 ≤ length bs → is_empty (map (λ b. (b, at)) bs) ≡ false
map-some at [] h = absurd (omega (arith, h))
map-some at (b ∷ bs) h = refl

written-some : (at code : ℕ) → is_empty (character_cells at code) ≡ false
written-some at code = map-some at (encode_utf8 code) (omega (arith, length-encode code, len_utf8_bounds code))

some-after : (cs : List Cell) (r : Result QuotedLine FaultAt) → is_empty cs ≡ false → gives_nothing (part_before cs r) ≡ false
some-after [] r h = cc
some-after (c ∷ cs) (Ok p) h = refl
some-after (c ∷ cs) (Err e) h = refl

abbrev GivesSome : Result QuotedLine FaultAt → Type 0
GivesSome r = gives_nothing r ≡ false

character-some : (at code : ℕ) (rest : Result QuotedLine FaultAt) → GivesSome (escape_character at code rest)
character-some at code rest =
    choose GivesSome (is_scalar_value code) (λ _. some-after (character_cells at code) rest (written-some at code)) (λ _. refl)

digits-some : (at n v : ℕ) (cs : List Cell) → GivesSome (escape_digits at n v cs)
digits-some at n v [] = refl
digits-some at zero v (c ∷ cs) = choose-option GivesSome (hex_digit c.0) refl (λ d _. character-some at (16 * v + d) (double_part cs))
digits-some at (suc n) v (c ∷ cs) = choose-option GivesSome (hex_digit c.0) refl (λ d _. digits-some at n (16 * v + d) cs)

escape-some : (at : ℕ) (cs : List Cell) → GivesSome (escape at cs)
escape-some at [] = refl
escape-some at (c ∷ cs) =
    choose-option GivesSome (lookup (λ k. k == c.0) escape_table)
    (choose-option GivesSome (lookup (λ k. k == c.0) digits_table) refl (λ width _. digits-some at (width - 1) 0 cs))
    (λ code _. some-after (character_cells at code) (double_part cs) (written-some at code))

double-some : (c : Cell) (cs : List Cell) → (IsBlankByte c.0 → ⊥) → GivesSome (double_part (c ∷ cs))
double-some c cs h =
    choose GivesSome (c.0 == 34) (λ _. refl)
    (λ _. choose GivesSome (c.0 == 92) (λ _. escape-some c.1 cs)
    (λ _. ap gives_nothing (own-byte c (double_part cs) h) ∙ some-after (c ∷ []) (double_part cs) refl))

own-solid : (c : Cell) (p : QuotedLine) → (IsBlankByte c.0 → ⊥) → is_nothing (with_own c p) ≡ false
own-solid c p h = rw (is_blank-no c h) refl

single-some : (c : Cell) (cs : List Cell) → (IsBlankByte c.0 → ⊥) → is_nothing (single_part (c ∷ cs)) ≡ false
single-some c [] h = choose (λ (p : QuotedLine). is_nothing p ≡ false) (c.0 == 39) (λ _. refl) (λ _. own-solid c (single_part []) h)
single-some c (d ∷ cs) h =
    choose (λ (p : QuotedLine). is_nothing p ≡ false) (not (c.0 == 39)) (λ _. own-solid c (single_part (d ∷ cs)) h)
    (λ _. choose (λ (p : QuotedLine). is_nothing p ≡ false) (d.0 == 39) (λ _. refl) (λ _. refl))

-- both kinds of quotes
pub part-some : (quotes : Quotes) (c : Cell) (cs : List Cell) → (IsBlankByte c.0 → ⊥) → gives_nothing (part_in quotes (c ∷ cs)) ≡ false
part-some Single c cs h = single-some c cs h
part-some Double c cs h = double-some c cs h
