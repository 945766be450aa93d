-- What is left of a file's lines while it is read. A bracket, a dash and a colon take at least one byte.
use Rattle.std.proofs.Common.{◌≡◌, inl, inr, ℕ, ◌+◌, ◌<◌, List, [], ◌∷◌, drop, refl, arith, Bool, true, false, if◌then◌else◌, Option, Some, None}
use Rattle.std.proofs.Common.{Result, Ok, Err}
use Rattle.std.proofs.lemmas.Bool.{and_parts, or_cases}
use Rattle.al_base.specs.Ascii.{ascii}
use Rattle.al_scalar.specs.Line.{Cell, Line, after_blanks, begins, blanks_dropped, is_blank_or_end, past}
use Rattle.al_scalar.specs.Places.{first_text}
use Rattle.al_scalar.specs.Plain.{Context, block}
use Rattle.al_scalar.specs.Scalar.{ScalarRead, scalar_at}
use Rattle.al_scalar.specs.declared.faults.FaultAt.{FaultAt}
use Rattle.al_scalar.proofs.OffsetLemmas.{climbing-drop}
use Rattle.al_scalar.proofs.Standing.{stand-cut}
use Rattle.al_yaml_tree.specs.Content.{is_dash, is_flow_start}
use Rattle.al_yaml_tree.specs.Keys.{Key, has_colon, key_before_colon, key_here, key_scalar}
use Rattle.al_yaml_tree.proofs.KeyReading.{OptionKeyIn, key_at-in}
use Rattle.al_yaml_tree.proofs.LeftLines.{File, AreLeft, IsRead, left-lower, left-blanks, left-first, starts-after, scalar-read}
use Rattle.al_yaml_tree.proofs.NodeReading.{read-ends}
use Rattle.al_yaml_tree.proofs.ScalarSpans.{Answers}
use Rattle.al_yaml_tree.proofs.TextLines.{value-colon}
use Rattle.al_laws.proofs.Agreeing.{Gives}

-- a file of this size, of which nothing else is known
abbrev pub of_size : ℕ → File
of_size size = record { size = size; is_utf8 = ⊥; is_plain = ⊥ }

-- these lines are left, at `low` or later
abbrev pub Left : ℕ → ℕ → List Line → Type 0
Left size low ls = AreLeft (of_size size) low ls

abbrev pub ReadAfter : ℕ → ℕ → ScalarRead → Type 0
ReadAfter size low r = Left size low r.left

-- the value of a key is after its colon
abbrev pub KeyAfter : ℕ → ℕ → Key → Type 0
KeyAfter size low key = Left size (low + 1) key.after

abbrev pub OptionKeyAfter : ℕ → ℕ → Option Key → Type 0
OptionKeyAfter size low None = Unit {0}
OptionKeyAfter size low (Some key) = KeyAfter size low key

pub given : {A : Type 0} (size : ℕ) (P : A → Type 0) (r : Result A FaultAt) → Answers size P r → Gives P r
given size P (Ok x) h = h
given size P (Err e) h = tt

first-dash : (cs : List Cell) → is_dash cs ≡ true → begins (ascii "-") cs ≡ true
first-dash [] e = absurd cc
first-dash (c ∷ cs) e = (and_parts _ (is_blank_or_end cs) e).0

module _ {size : ℕ} where
  pub past-left : (k : ℕ) {low : ℕ} {ls : List Line} → Left size low ls → Left size low (past k ls)
  past-left k {ls = []} h = h
  past-left k {low = low} {ls = l ∷ ls} h = record {
    stand = stand-cut size low low (drop k l.text) l ls (climbing-drop k low l.end l.text h.stand.0.0) h.stand;
    utf8 = λ u. absurd u;
  }

  pub past-one : (q : ℕ) {low : ℕ} {ls : List Line} → q < 128 → begins q (first_text ls) ≡ true → Left size low ls → Left size (low + 1) (past 1 ls)
  past-one q {low} {ls} a e h = let b = starts-after h in left-lower (omega (arith, b)) (left-first q a e h)

  pub past-dash : {low : ℕ} {ls : List Line} → is_dash (first_text ls) ≡ true → Left size low ls → Left size (low + 1) (past 1 ls)
  past-dash {low} {ls} e h = past-one (ascii "-") (omega arith) (first-dash (first_text ls) e) h

  pub past-bracket : {low : ℕ} {ls : List Line} → is_flow_start (first_text ls) ≡ true → Left size low ls → Left size (low + 1) (past 1 ls)
  past-bracket {low} {ls} e h = elim (or_cases (begins (ascii "[") (first_text ls)) (begins (ascii "{") (first_text ls)) e) [
    | inl i ↦ past-one (ascii "[") (omega arith) i h
    | inr i ↦ past-one (ascii "{") (omega arith) i h
  ]

  past-colon : {low : ℕ} {ls : List Line} → has_colon ls ≡ true → Left size low ls → Left size (low + 1) (past 1 (blanks_dropped ls))
  past-colon {ls = []} e h = absurd h.stand.0
  past-colon {low = low} {ls = l ∷ ls} e h = past-one (ascii ":") (omega arith) (value-colon (block 0) (after_blanks l.text) e) (left-blanks h)

  pub scalar-after : (p : Context) (low : ℕ) (ls : List Line) → Left size low ls → Gives (ReadAfter size low) (scalar_at p ls)
  scalar-after p low ls h = by-answer (scalar_at p ls) (scalar-read p low ls h)
    where
      by-answer : (r : Result ScalarRead FaultAt) → Answers size (IsRead (of_size size) low) r → Gives (ReadAfter size low) r
      by-answer (Ok r) k = left-lower (read-ends k) k.left
      by-answer (Err e) k = tt

-- a scalar as a key, if a colon follows
abbrev key_with : ScalarRead → Bool → Option Key
key_with r colon = if colon then Some (record { read = r; after = past 1 (blanks_dropped r.left) }) else None

by-colon : (size low : ℕ) (r : ScalarRead) (b : Bool) → has_colon r.left ≡ b → OptionKeyIn (of_size size) low (key_with r b)
    → OptionKeyAfter size low (key_with r b)
by-colon size low r true e k = past-colon e (left-lower (read-ends k.0) k.0.left)
by-colon size low r false e k = tt

by-scalar : (size low : ℕ) (r : Result ScalarRead FaultAt)
    → Answers size (OptionKeyIn (of_size size) low) (elim r [ Ok r ↦ Ok (key_before_colon r) | Err f ↦ Err f ])
    → Gives (OptionKeyAfter size low) (elim r [ Ok r ↦ Ok (key_before_colon r) | Err f ↦ Err f ])
by-scalar size low (Ok r) k = by-colon size low r (has_colon r.left) refl k
by-scalar size low (Err e) k = tt

module _ {size : ℕ} where
  pub key-after : (low : ℕ) (ls : List Line) → Left size low ls → Gives (OptionKeyAfter size low) (key_here ls)
  key-after low ls h = by-scalar size low (key_scalar ls) (key_at-in low ls h)
