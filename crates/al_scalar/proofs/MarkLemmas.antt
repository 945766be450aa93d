-- What ends a run of literal characters, in terms of offsets: a quote, an escape, a break or the file's end.
use Rattle.std.proofs.Common.{◌≡◌, ◌≢◌, ℕ, zero, suc, ◌-◌, ◌*◌, ◌==◌, drop, ◌+◌, ◌<◌, List, [], ◌∷◌, ◌++◌, length, take, slice_index, refl, sym, ap, subst, ◌∙◌, arith}
use Rattle.std.proofs.Common.{append-nil, Bool, true, false, nat_lt, cond, inl, inr, ◌⊎◌, Option, Some, None, Result}
use Rattle.std.proofs.Common.{Ok, Err}
use Rattle.std.proofs.lemmas.Grind.{common_steps}
use Rattle.std.specs.Char.{IsScalar}
use Rattle.std.proofs.lemmas.List.{take_all}
use Rattle.std.proofs.Math.Seq.{take-append_seam, drop-append_seam}
use Rattle.std.proofs.lemmas.Bool.{false_from_ne_true}
use Rattle.std.proofs.lemmas.Bool.Decides.{nat_tests}
use Rattle.al_base.specs.declared.codes.YamlCode.TheVariants as yaml
use Rattle.al_scalar.specs.Line.{Cell, begins}
use Rattle.al_scalar.specs.Taken.{fault}
use Rattle.al_scalar.specs.declared.faults.FaultAt.{FaultAt}
use Rattle.al_scalar.specs.Quoted.{QuotedLine, closed, escaped, cut_short, part_before, character_cells, escape_table, digits_table}
use Rattle.std.specs.Map.{lookup}
use Rattle.al_scalar.specs.Quoted.{escape_character, escape_digits, hex_digit, is_scalar_value, escape, double_part, quoted_lines, single_quoted, double_quoted}
use Rattle.al_scalar.specs.Places.{first_text, lines_at, text_at}
use Rattle.al_scalar.specs.LineEnds.{first_last, later, cells_between, IsBreakByte, IsLineEnd}
use Rattle.al_scalar.specs.declared.quoted.Quotes.{Quotes}
use Rattle.al_scalar.specs.declared.quoted.Quotes.TheVariants.{Single, Double}
use Rattle.al_scalar.specs.Private.QuotedRead.{part_in, quoted_in, ReadsOn, EndsRun, IsMarkByte, Between, read_after_break, hex_value}
use Rattle.al_scalar.proofs.LineCells.{lines_at-some, cell_at, run_then, RunBefore, text-line_end, lines-at_end, same_then}
use Rattle.al_scalar.proofs.FoldLemmas.{break-at}
use Rattle.al_scalar.proofs.QuotedLemmas.{quoted-part, given, given-closed, given-break, given-end}
use Rattle.al_scalar.proofs.PartLemmas.{nothing, part-end, single-quote, single-pair, double-quote, double-escape}
use Rattle.al_scalar.proofs.LiteralLemmas.{reads_on}
use Rattle.al_scalar.proofs.BlockLemmas.{length-cells_between}

-- an escape with `width` digits, given those that are on the line, and their value
abbrev hex_escape : ℕ → ℕ → List Cell → Option ℕ → Result QuotedLine FaultAt → Result QuotedLine FaultAt
hex_escape at width digits None after = fault yaml.WrongEscape at
hex_escape at width digits (Some code) after =
    cond (nat_lt (length digits) width) (Ok (record { text = []; stop = cut_short at })) (escape_character at code after)

none_less : (n : ℕ) → nat_lt 0 (suc n) ≡ true
none_less n = grind (arith, common_steps)

less_more : (a b : ℕ) (x : Bool) → nat_lt a b ≡ x → nat_lt (suc a) (suc b) ≡ x
less_more a b true h = grind (arith, common_steps, h)
less_more a b false h = grind (arith, common_steps, h)

one_further : (at n : ℕ) (c : Cell) (ds : List Cell) (o : Option ℕ) (after : Result QuotedLine FaultAt)
    → hex_escape at n ds o after ≡ hex_escape at (suc n) (c ∷ ds) o after
one_further at n c ds None after = refl
one_further at n c ds (Some code) after =
    sym (ap (λ x. cond x (Ok (record { text = []; stop = cut_short at })) (escape_character at code after)) (less_more (length ds) n (nat_lt (length ds) n) refl))

-- `escape_digits` reads all digits at once.
digits-are : (at n v : ℕ) (cs : List Cell)
    → escape_digits at n v cs ≡ hex_escape at (suc n) (take (suc n) cs) (hex_value v (take (suc n) cs)) (double_part (drop (suc n) cs))
digits-are at n v [] =
    sym (ap (λ x. cond x (Ok (record { text = []; stop = cut_short at })) (escape_character at v (double_part []))) (none_less n))
digits-are at zero v (c ∷ cs) = last_digit (hex_digit c.0)
  where
    last_digit : (o : Option ℕ) → elim o [ None ↦ fault yaml.WrongEscape at | Some d ↦ escape_character at (16 * v + d) (double_part cs) ]
        ≡ hex_escape at 1 (c ∷ []) (elim o [ None ↦ None | Some d ↦ hex_value (16 * v + d) [] ]) (double_part cs)
    last_digit None = refl
    last_digit (Some d) = refl
digits-are at (suc n) v (c ∷ cs) = next_digit (hex_digit c.0) (λ d. digits-are at n (16 * v + d) cs)
  where
    next_digit : (o : Option ℕ)
        → ((d : ℕ) → escape_digits at n (16 * v + d) cs
        ≡ hex_escape at (suc n) (take (suc n) cs) (hex_value (16 * v + d) (take (suc n) cs)) (double_part (drop (suc n) cs)))
        → elim o [ None ↦ fault yaml.WrongEscape at | Some d ↦ escape_digits at n (16 * v + d) cs ]
        ≡ hex_escape at (suc (suc n)) (c ∷ take (suc n) cs) (elim o [ None ↦ None | Some d ↦ hex_value (16 * v + d) (take (suc n) cs) ])
        (double_part (drop (suc n) cs))
    next_digit None below = refl
    next_digit (Some d) below =
        below d ∙ one_further at (suc n) c (take (suc n) cs) (hex_value (16 * v + d) (take (suc n) cs)) (double_part (drop (suc n) cs))

-- what follows a backslash, by the two tables' answers for its letter
abbrev letter_given : ℕ → List Cell → Option ℕ → Option ℕ → Result QuotedLine FaultAt
letter_given at cs x y = elim x [
  | Some code ↦ part_before (character_cells at code) (double_part cs)
  | None ↦ elim y [ None ↦ fault yaml.WrongEscape at | Some width ↦ escape_digits at (width - 1) 0 cs ]
]

-- An escape with digits has at least one.
has_digits : (b count : ℕ) → lookup (λ k. k == b) digits_table ≡ Some count → suc (count - 1) ≡ count
has_digits b count e = grind (arith, common_steps, e)

-- The letter of an escape with digits is no break.
pub letter_kind : (b count : ℕ) → lookup (λ k. k == b) digits_table ≡ Some count → (b ≢ 10) × (b ≢ 13)
letter_kind b count e = (λ f. grind (arith, common_steps, e, f), λ f. grind (arith, common_steps, e, f))

-- a scalar by what the part of its first line gives
module _ (quotes : Quotes) (bytes : List ℕ) (at q : ℕ) where
  given_at : (r : Result QuotedLine FaultAt) → part_in quotes (text_at bytes at) ≡ r
      → quoted_in quotes q (lines_at bytes at) ≡ elim r [ Ok p ↦ given (part_in quotes) q p (lines_at bytes at) | Err e ↦ Err e ]
  given_at (Ok p) e = quoted-part (part_in quotes) q (lines_at bytes at) (Ok p) (lines_at-some bytes at) e
  given_at (Err f) e = quoted-part (part_in quotes) q (lines_at bytes at) (Err f) (lines_at-some bytes at) e

  pub file_end : at ≡ length bytes → quoted_in quotes q (lines_at bytes at) ≡ Err (record { code = yaml.UnclosedQuote; at = q })
  file_end e =
      given_at (Ok nothing) (ap (λ ls. part_in quotes (first_text ls)) (lines-at_end bytes at e) ∙ part-end quotes)
      ∙ given-end (part_in quotes) q false (lines_at bytes at) (ap first_last (lines-at_end bytes at e))

  pub line_break : at < length bytes → IsLineEnd bytes at → quoted_in quotes q (lines_at bytes at) ≡ read_after_break quotes bytes at false q
  line_break h k =
      let broke = break-at bytes at h k in
      given_at (Ok nothing) (ap (part_in quotes) (text-line_end bytes at (omega arith) k) ∙ part-end quotes)
      ∙ given-break (part_in quotes) q false (lines_at bytes at) broke.1
      ∙ ap (λ end. quoted_lines (part_in quotes) q (Some end) (later (lines_at bytes at))) broke.0

  closed_at : at < length bytes → slice_index bytes at ≢ 10 → slice_index bytes at ≢ 13
      → part_in quotes ((slice_index bytes at, at) ∷ text_at bytes (at + 1)) ≡ Ok (record { text = []; stop = closed (at + 1) (text_at bytes (at + 1)) })
      → quoted_in quotes q (lines_at bytes at) ≡ Ok (record { text = []; end = at + 1; left = lines_at bytes (at + 1) })
  closed_at h n m e =
      let cell = cell_at bytes at h n m in
      given_at (Ok (record { text = []; stop = closed (at + 1) (text_at bytes (at + 1)) })) (ap (part_in quotes) cell.text ∙ e)
      ∙ given-closed (part_in quotes) q (at + 1) (lines_at bytes at) (lines_at bytes (at + 1)) (lines_at-some bytes (at + 1)) cell.same

-- ---- at a quote

pub mark_byte : (quotes : Quotes) (bytes : List ℕ) (at : ℕ) → at < length bytes → EndsRun quotes bytes at → (IsLineEnd bytes at → ⊥)
    → IsMarkByte quotes (slice_index bytes at)
mark_byte quotes bytes at h e n = kind (e h)
  where
    kind : IsBreakByte (slice_index bytes at) ⊎ IsMarkByte quotes (slice_index bytes at) → IsMarkByte quotes (slice_index bytes at)
    kind (inl k) = absurd (n (λ _. k))
    kind (inr m) = m

pub double_closing : (bytes : List ℕ) (at q : ℕ) → at < length bytes → slice_index bytes at ≡ 34
    → double_quoted q (lines_at bytes at) ≡ Ok (record { text = []; end = at + 1; left = lines_at bytes (at + 1) })
double_closing bytes at q h e = closed_at Double bytes at q h (omega arith) (omega arith) (double-quote (slice_index bytes at, at) (text_at bytes (at + 1)) e)

module _ (bytes : List ℕ) (at : ℕ) (h : at < length bytes) (e : slice_index bytes at ≡ 39) where
  pub single_closing : (q : ℕ) → begins 39 (text_at bytes (at + 1)) ≡ false
      → single_quoted q (lines_at bytes at) ≡ Ok (record { text = []; end = at + 1; left = lines_at bytes (at + 1) })
  single_closing q f =
      closed_at Single bytes at q h (omega arith) (omega arith) (ap Ok (single-quote (slice_index bytes at, at) (text_at bytes (at + 1)) e f))

  -- two single quotes give one
  pub single_pair : at + 1 < length bytes → slice_index bytes (at + 1) ≡ 39 → ReadsOn Single bytes at (character_cells at 39) (at + 2)
  single_pair l f =
      let one = cell_at bytes at h (omega arith) (omega arith) in
      let two = cell_at bytes (at + 1) l (omega arith) (omega arith) in
      let both = run_then ((slice_index bytes at, at) ∷ []) ((slice_index bytes (at + 1), at + 1) ∷ []) one two in
      let further : at + 1 + 1 ≡ at + 2 = omega arith in
      subst (λ k. ReadsOn Single bytes at (character_cells at 39) k) further
      (reads_on Single bytes at (at + 1 + 1) (character_cells at 39) both.same
      (ap (part_in Single) both.text
      ∙ single-pair (slice_index bytes at) at (slice_index bytes (at + 1), at + 1) (text_at bytes (at + 1 + 1)) e f))

-- ---- after a backslash

module _ (bytes : List ℕ) (at : ℕ) (h : at < length bytes) (e : slice_index bytes at ≡ 92) where
  slash : RunBefore ((slice_index bytes at, at) ∷ []) (lines_at bytes at) (lines_at bytes (at + 1))
  slash = cell_at bytes at h (omega arith) (omega arith)

  escape-part : (cs : List Cell) → text_at bytes (at + 1) ≡ cs → double_part (text_at bytes at) ≡ escape at cs
  escape-part cs f = ap (double_part) (slash.text ∙ ap (λ t. (slice_index bytes at, at) ∷ t) f) ∙ double-escape (slice_index bytes at, at) cs e

  pub escape_cut : (q : ℕ) → at + 1 ≡ length bytes → double_quoted q (lines_at bytes at) ≡ Err (record { code = yaml.UnclosedQuote; at = q })
  escape_cut q f =
      let last : first_last (lines_at bytes at) ≡ true = slash.same.last ∙ ap first_last (lines-at_end bytes (at + 1) f) in
      given_at Double bytes at q (Ok (record { text = []; stop = escaped })) (escape-part [] (text-line_end bytes (at + 1) (omega arith) (λ l. absurd (omega arith))))
      ∙ given-end (double_part) q true (lines_at bytes at) last

  pub escaped_break : (q : ℕ) → at + 1 < length bytes → IsLineEnd bytes (at + 1) → double_quoted q (lines_at bytes at) ≡ read_after_break Double bytes (at + 1) true q
  escaped_break q l k =
      let broke = break-at bytes (at + 1) l k in
      given_at Double bytes at q (Ok (record { text = []; stop = escaped })) (escape-part [] (text-line_end bytes (at + 1) (omega arith) k))
      ∙ given-break (double_part) q true (lines_at bytes at) (slash.same.last ∙ broke.1)
      ∙ ap (λ ls. quoted_lines (double_part) q None ls) slash.same.later

  -- a letter follows the backslash
  module _ (l : at + 1 < length bytes) (n : slice_index bytes (at + 1) ≢ 10) (m : slice_index bytes (at + 1) ≢ 13) where
    letter_at : RunBefore ((slice_index bytes (at + 1), at + 1) ∷ []) (lines_at bytes (at + 1)) (lines_at bytes (at + 1 + 1))
    letter_at = cell_at bytes (at + 1) l n m

    both : RunBefore (((slice_index bytes at, at) ∷ []) ++ (slice_index bytes (at + 1), at + 1) ∷ []) (lines_at bytes at) (lines_at bytes (at + 1 + 1))
    both = run_then ((slice_index bytes at, at) ∷ []) ((slice_index bytes (at + 1), at + 1) ∷ []) slash letter_at

    letter-part : (x y : Option ℕ) → lookup (λ k. k == slice_index bytes (at + 1)) escape_table ≡ x → lookup (λ k. k == slice_index bytes (at + 1)) digits_table ≡ y
        → double_part (text_at bytes at) ≡ letter_given at (text_at bytes (at + 1 + 1)) x y
    letter-part x y f g =
        escape-part ((slice_index bytes (at + 1), at + 1) ∷ text_at bytes (at + 1 + 1)) letter_at.text
        ∙ ap (λ x. letter_given at (text_at bytes (at + 1 + 1)) x (lookup (λ k. k == slice_index bytes (at + 1)) digits_table)) f
        ∙ ap (letter_given at (text_at bytes (at + 1 + 1)) x) g

    pub one_letter : (code : ℕ) → lookup (λ k. k == slice_index bytes (at + 1)) escape_table ≡ Some code → ReadsOn Double bytes at (character_cells at code) (at + 1 + 1)
    one_letter code f = reads_on Double bytes at (at + 1 + 1) (character_cells at code) both.same (letter-part (Some code) (lookup (λ k. k == slice_index bytes (at + 1)) digits_table) f refl)

    pub no_letter : (q : ℕ) → lookup (λ k. k == slice_index bytes (at + 1)) escape_table ≡ None → lookup (λ k. k == slice_index bytes (at + 1)) digits_table ≡ None
        → double_quoted q (lines_at bytes at) ≡ Err (record { code = yaml.WrongEscape; at = at })
    no_letter q f g = given_at Double bytes at q (Err (record { code = yaml.WrongEscape; at = at })) (letter-part None None f g)

    -- digits follow the letter
    module _ (count : ℕ) (f : lookup (λ k. k == slice_index bytes (at + 1)) escape_table ≡ None) (g : lookup (λ k. k == slice_index bytes (at + 1)) digits_table ≡ Some count) where
      number-part : double_part (text_at bytes at) ≡ hex_escape at count (take count (text_at bytes (at + 1 + 1)))
          (hex_value 0 (take count (text_at bytes (at + 1 + 1))))
          (double_part (drop count (text_at bytes (at + 1 + 1))))
      number-part =
          letter-part None (Some count) f g
          ∙ (rw (has_digits (slice_index bytes (at + 1)) count g) at (digits-are at (count - 1) 0 (text_at bytes (at + 1 + 1))))

      pub wrong_digit : (q : ℕ) → hex_value 0 (take count (text_at bytes (at + 1 + 1))) ≡ None → double_quoted q (lines_at bytes at) ≡ Err (record { code = yaml.WrongEscape; at = at })
      wrong_digit q e = given_at Double bytes at q (Err (record { code = yaml.WrongEscape; at = at }))
          (number-part ∙ rw e refl)

      -- all digits are there
      module _ (b : Between bytes (at + 1 + 1) (at + 1 + 1 + count)) (code : ℕ) (v : hex_value 0 (cells_between bytes (at + 1 + 1) (at + 1 + 1 + count)) ≡ Some code) where
        digits-taken : take count (text_at bytes (at + 1 + 1)) ≡ cells_between bytes (at + 1 + 1) (at + 1 + 1 + count)
        digits-taken =
            let ds = cells_between bytes (at + 1 + 1) (at + 1 + 1 + count) in
            let size : count ≡ length ds = omega (arith, length-cells_between bytes (at + 1 + 1) (at + 1 + 1 + count)) in
            ap (take count) b.1 ∙ ap (λ n. take n (ds ++ text_at bytes (at + 1 + 1 + count))) size ∙ take-append_seam ds (text_at bytes (at + 1 + 1 + count))

        code-part : double_part (text_at bytes at) ≡ cond (is_scalar_value code) (part_before (character_cells at code) (double_part (text_at bytes (at + 1 + 1 + count)))) (fault yaml.WrongEscape at)
        code-part =
            let ds = cells_between bytes (at + 1 + 1) (at + 1 + 1 + count) in
            let rest = text_at bytes (at + 1 + 1 + count) in
            let size : length ds ≡ count = omega (arith, length-cells_between bytes (at + 1 + 1) (at + 1 + 1 + count)) in
            let long : nat_lt (length ds) count ≡ false = grind (arith, common_steps, size) in
            let after : double_part (drop count (text_at bytes (at + 1 + 1))) ≡ double_part rest =
            ap (λ t. double_part (drop count t)) b.1 ∙ ap (λ n. double_part (drop n (ds ++ rest))) (sym size) ∙ ap double_part (drop-append_seam ds rest) in
            number-part ∙ rw (digits-taken, v, long, after) refl

        pub number : is_scalar_value code ≡ true → ReadsOn Double bytes at (character_cells at code) (at + 1 + 1 + count)
        number e = reads_on Double bytes at (at + 1 + 1 + count) (character_cells at code) (same_then both.same b.0.same)
            (code-part ∙ rw e refl)

        pub no_character : (q : ℕ) → is_scalar_value code ≡ false → double_quoted q (lines_at bytes at) ≡ Err (record { code = yaml.WrongEscape; at = at })
        no_character q e = given_at Double bytes at q (Err (record { code = yaml.WrongEscape; at = at }))
            (code-part ∙ rw e refl)

      -- the line ends before the last digit
      module _ (end : ℕ) (b : Between bytes (at + 1 + 1) end) (k : IsLineEnd bytes end) (few : end < at + 1 + 1 + count) (value : ℕ)
          (v : hex_value 0 (cells_between bytes (at + 1 + 1) end) ≡ Some value) where
        short-part : double_part (text_at bytes at) ≡ Ok (record { text = []; stop = cut_short at })
        short-part =
            let ds = cells_between bytes (at + 1 + 1) end in
            let o = b.0.from in
            let size : length ds < count = omega (arith, length-cells_between bytes (at + 1 + 1) end) in
            let short : nat_lt (length ds) count ≡ true = grind (arith, common_steps, size) in
            let text : text_at bytes (at + 1 + 1) ≡ ds = b.1 ∙ ap (λ t. ds ++ t) (text-line_end bytes end b.0.inside k) ∙ append-nil ds in
            let taken : take count (text_at bytes (at + 1 + 1)) ≡ ds = ap (take count) text ∙ take_all count ds (omega (arith, size)) in
            number-part ∙ rw (taken, v, short) refl

        short-given : (q : ℕ) (last : Bool) → first_last (lines_at bytes end) ≡ last → double_quoted q (lines_at bytes at) ≡ cond last (fault yaml.UnclosedQuote q) (fault yaml.WrongEscape at)
        short-given q last e =
            given_at Double bytes at q (Ok (record { text = []; stop = cut_short at })) short-part
            ∙ ap (λ z. cond z (fault yaml.UnclosedQuote q) (fault yaml.WrongEscape at)) (both.same.last ∙ b.0.same.last ∙ e)

        pub short_file : (q : ℕ) → end ≡ length bytes → double_quoted q (lines_at bytes at) ≡ Err (record { code = yaml.UnclosedQuote; at = q })
        short_file q e = short-given q true (ap first_last (lines-at_end bytes end e))

        pub short_line : (q : ℕ) → end < length bytes → double_quoted q (lines_at bytes at) ≡ Err (record { code = yaml.WrongEscape; at = at })
        short_line q l = short-given q false (break-at bytes end l k).1

pub scalar_value : (code : ℕ) → IsScalar code → is_scalar_value code ≡ true
scalar_value code h = grind (arith, nat_tests, h)

pub no_scalar_value : (code : ℕ) → (IsScalar code → ⊥) → is_scalar_value code ≡ false
no_scalar_value code h = false_from_ne_true (is_scalar_value code) (λ e. h (grind (arith, nat_tests, e)))
