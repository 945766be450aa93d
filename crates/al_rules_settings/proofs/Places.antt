-- Where a needle occurs in a script; the faults of commands lie in the file.
use Rattle.std.specs.Prelude.{◌≡◌, ℕ, zero, suc, ◌+◌, ◌-◌, ◌<◌, ◌≤◌, ◌^◌, All, Bool, true, false, List, [], ◌∷◌, map, length, nat_lt, get_or}
use Rattle.std.proofs.Common.{cond, arith, sym, ap, ◌∙◌, ◌++◌, eq-eqb, refl, subst, Option, Some, None}
use Rattle.std.specs.Prelude.{is_none}
use Rattle.std.specs.List.{AllByRecursion, flat_map}
use Rattle.std.proofs.lemmas.List.{length-map}
use Rattle.std.proofs.lemmas.List.Elements.{recursion_from_All}
use Rattle.memchr.specs.Find.{IsFirstByte, Nowhere, OccursAt, Passes, is_byte, matches}
use Rattle.memchr.proofs.lemmas.CallerLemmas.{All-matches}
use Rattle.memchr.proofs.lemmas.MatchLemmas.{matches-none}
use Rattle.al_base.specs.Spans.{LiesIn}
use Rattle.al_scalar.proofs.PlacedLemmas.{offset-order}
use Rattle.al_scalar.specs.Line.{Cell}
use Rattle.al_scalar.specs.Offsets.{AreBefore, reach}
use Rattle.al_scalar.specs.Scalar.{Scalar, offset_of, offset_or, text_of}
use Rattle.al_rules_settings.specs.Commands.{command_fault, command_faults, commands, one_command, part_span}
use Rattle.al_base.proofs.Elements.{each_as, each_of}
use Rattle.al_rules_settings.proofs.Inside.{Lies, Text}

pub places_occur : (hay needle : List ℕ) → All (OccursAt hay needle) (matches hay needle 0)
places_occur hay needle = All-matches hay needle 0

-- ---- a script without colons

-- a needle that begins with a colon
abbrev BeginsWithColon : List ℕ → Type 0
BeginsWithColon [] = ⊥
BeginsWithColon (b ∷ bs) = b ≡ 58

module _ (s : Scalar) (none : Nowhere (Passes (is_byte 58) (text_of s)) 0 (length (text_of s))) where
  nowhere : (needle : List ℕ) → BeginsWithColon needle → (k : ℕ) → OccursAt (text_of s) needle k → ⊥
  nowhere [] b k o = b
  nowhere (c ∷ cs) b k o =
      let reads : get_or (text_of s) (k + 0) 0 ≡ c = o.reads 0 (omega arith) in
      let same : k + 0 ≡ k = omega arith in
      let colon : get_or (text_of s) k 0 ≡ 58 = ap (λ i. get_or (text_of s) i 0) (sym same) ∙ reads ∙ b in
      let fits : k + length (c ∷ cs) ≤ length (text_of s) = o.fits in
      none k (omega arith) (omega (arith, fits)) (eq-eqb _ _ colon)

  no_command : (c : List ℕ × List ℕ) → BeginsWithColon c.0 → one_command s c ≡ []
  no_command c b = ap (map (command_fault s c.0 c.1)) (matches-none (text_of s) c.0 0 (λ k low high. nowhere c.0 b k))

  no_commands : (cs : List (List ℕ × List ℕ)) → AllByRecursion (λ (c : List ℕ × List ℕ). BeginsWithColon c.0) cs → flat_map (one_command s) cs ≡ []
  no_commands [] h = refl
  no_commands (c ∷ cs) h = ap (λ fs. fs ++ flat_map (one_command s) cs) (no_command c h.0) ∙ no_commands cs h.1

  -- each command begins with one, so the script has none of them
  without_colons : command_faults s ≡ []
  without_colons = no_commands commands (refl, (refl, (refl, (refl, tt))))

-- where a search finds no colon
pub no_colon_found : (s : Scalar) (hay : List ℕ) (found : Option ℕ) → hay ≡ text_of s → is_none found ≡ true → IsFirstByte (is_byte 58) hay found → command_faults s ≡ []
no_colon_found s hay None same h first = without_colons s (subst (λ (t : List ℕ). Nowhere (Passes (is_byte 58) t) 0 (length t)) same first)
no_colon_found s hay (Some k) same h first = absurd cc

module _ (size : ℕ) where
  before_end : (end other : ℕ) (cs : List Cell) (i : ℕ) → AreBefore end cs → i < length cs → (get_or (map (λ (c : Cell). c.0) cs) i 0 ≡ 10 → ⊥) → offset_or cs other i < end
  before_end end other [] i b h ne = absurd (omega (arith, h))
  before_end end other (c ∷ cs) zero b h ne = b.0 ne
  before_end end other (c ∷ cs) (suc i) b h ne = let more : i < length cs = omega (arith, h) in before_end end other cs i b.1 more ne

  after_at : (b : Bool) (from last : ℕ) → from ≤ last → last < size → LiesIn size (record { start = from; end = cond b (last + 1) last })
  after_at true from last o l = record { ordered = omega (arith, o); inside = omega (arith, l) }
  after_at false from last o l = record { ordered = o; inside = omega (arith, l) }

  -- what is looked for ends in a byte that is no line feed
  abbrev IsNeedle : List ℕ → Type 0
  IsNeedle [] = ⊥
  IsNeedle (b ∷ bs) = get_or (b ∷ bs) (length bs) 0 ≡ 10 → ⊥

  part_lies : (s : Scalar) (needle : List ℕ) (i : ℕ) → Text size s → IsNeedle needle → OccursAt (text_of s) needle i → LiesIn size (part_span s i (length needle))
  part_lies s [] i p n o = absurd n
  part_lies s (b ∷ bs) i p n o =
      let cells = s.cells in
      let last : ℕ = i + length (b ∷ bs) - 1 in
      let is : last ≡ i + length bs = omega arith in
      let len : length (text_of s) ≡ length cells = length-map cells _ in
      let fits : i + length (b ∷ bs) ≤ length (text_of s) = o.fits in
      let inside : last < length cells = omega (arith, len, fits) in
      let lower : i ≤ last = omega arith in
      let rises : offset_of s i ≤ offset_of s last = offset-order s.span.start (reach 1048576 s.style s.span.end) s.span.end cells i last p.placed.rising lower inside in
      let reads : get_or (text_of s) (i + length bs) 0 ≡ get_or (b ∷ bs) (length bs) 0 = o.reads (length bs) (omega arith) in
      let at_last : get_or (text_of s) last 0 ≡ get_or (b ∷ bs) (length bs) 0 = ap (λ k. get_or (text_of s) k 0) is ∙ reads in
      let ends : offset_of s last < s.span.end = before_end s.span.end s.span.end cells last p.placed.before inside (λ e. n (sym at_last ∙ e)) in
      let to : s.span.end ≤ size = p.place.inside in
      after_at (nat_lt (offset_of s last) (2 ^ 32 - 1)) (offset_of s i) (offset_of s last) rises (omega (arith, ends, to))

  command_lies : (s : Scalar) (c : List ℕ × List ℕ) → Text size s → IsNeedle c.0 → AllByRecursion (Lies size) (one_command s c)
  command_lies s c p n =
      let hay = text_of s in
      each_as (OccursAt hay c.0) (Lies size) (command_fault s c.0 c.1) (λ i o. part_lies s c.0 i p n o) (matches hay c.0 0)
      (recursion_from_All (OccursAt hay c.0) (matches hay c.0 0) (places_occur hay c.0))

  needles : AllByRecursion (λ (c : List ℕ × List ℕ). IsNeedle c.0) commands
  needles = (λ e. omega (arith, e), (λ e. omega (arith, e), (λ e. omega (arith, e), (λ e. omega (arith, e), tt))))

  pub commands_lie : (s : Scalar) → Text size s → AllByRecursion (Lies size) (command_faults s)
  commands_lie s p = each_of (λ (c : List ℕ × List ℕ). IsNeedle c.0) (Lies size) (one_command s) (λ c n. command_lies s c p n) commands needles
