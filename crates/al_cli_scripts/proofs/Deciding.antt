-- Whether bytes begin with a command is decidable: the command's texts are parts of the bytes, of which there are finitely many.
use Rattle.std.proofs.Common.{◌≡◌, ◌≢◌, ℕ, zero, suc, ◌<◌, ◌^◌, ◌⊎◌, inl, inr, Bool, true, false, List, [], ◌∷◌, ◌++◌, length, take, drop}
use Rattle.std.proofs.Common.{refl, sym, ap, subst, ◌∙◌, arith, append_assoc, length-append, codes}
use Rattle.std.specs.Prelude.{bytes_eq, decimal}
use Rattle.std.specs.Str.{is_utf8}
use Rattle.std.proofs.lemmas.Str.{IsUtf8-from_is_utf8, is_utf8-from_IsUtf8}
use Rattle.std.proofs.lemmas.Bool.{cases_eq, cases_lt, false≢true}
use Rattle.std.proofs.lemmas.List.{take_at, drop_at}
use Rattle.std.proofs.lemmas.List.Elements.{All-cons, All-nil, All-tail}
use Rattle.std.proofs.lemmas.Slice.Eq.{bytes_eq-Decides}
use Rattle.al_cli_scripts.specs.Script.{Command, Put, Delete, Report, ScriptLine, PutLine, DeleteLine, ReportLine, line_bytes, line_of}
use Rattle.al_cli_scripts.specs.Script.{HasNoBreak, HasWords, IsPathText, IsLine, IsCommand, command_bytes, BeginsWithCommand}

abbrev pub Decided : Type 0 → Type 0
Decided P = P ⊎ (P → ⊥)

alike : {P Q : Type 0} → (P → Q) → (Q → P) → Decided P → Decided Q
alike f g (inl p) = inl (f p)
alike f g (inr never) = inr (λ q. never (g q))

both : {P Q : Type 0} → Decided P → Decided Q → Decided (P × Q)
both (inl p) (inl q) = inl (p, q)
both (inl p) (inr never) = inr (λ h. never h.1)
both (inr never) q = inr (λ h. never h.0)

either : {P Q : Type 0} → Decided P → Decided Q → Decided (P ⊎ Q)
either (inl p) q = inl (inl p)
either (inr never) (inl q) = inl (inr q)
either (inr never) (inr none) = inr (λ h. elim h [ inl p ↦ never p | inr q ↦ none q ])

by_test : {P : Type 0} (b : Bool) → (b ≡ true → P) → (P → b ≡ true) → Decided P
by_test true f g = inl (f refl)
by_test false f g = inr (λ p. false≢true (g p))

same : (xs ys : List ℕ) → Decided (xs ≡ ys)
same xs ys = by_test (bytes_eq xs ys) (bytes_eq-Decides xs ys).0 (bytes_eq-Decides xs ys).1

below : (m n : ℕ) → Decided (m < n)
below m n = elim (cases_lt m n) [
  | inl h ↦ inl h
  | inr h ↦ inr (λ l. omega (arith, h, l))
]

no_break : (b : ℕ) → Decided (b ≢ 10)
no_break b = elim (cases_eq b 10) [
  | inl e ↦ inr (λ ne. ne e)
  | inr ne ↦ inl ne
]

one_line : (bs : List ℕ) → Decided (HasNoBreak bs)
one_line [] = inl (All-nil (λ b. b ≢ 10))
one_line (b ∷ bs) = alike (λ h. All-cons (λ c. c ≢ 10) b bs h.0 h.1) (λ all. (all 0 b (omega arith), All-tail (λ c. c ≢ 10) b bs all)) (both (no_break b) (one_line bs))

nonempty : (bs : List ℕ) → Decided (bs ≢ [])
nonempty [] = inr (λ never. never refl)
nonempty (b ∷ bs) = inl (λ e. absurd cc)

path_text : (path : List ℕ) → Decided (IsPathText path)
path_text path = alike (λ h. record { nonempty = h.0; utf8 = h.1.0; one_line = h.1.1 }) (λ t. (t.nonempty, (t.utf8, t.one_line)))
    (both (nonempty path) (both (by_test (is_utf8 path) (IsUtf8-from_is_utf8 path) (is_utf8-from_IsUtf8 path)) (one_line path)))

words : (l : ScriptLine) → Decided (HasWords l)
words (PutLine path len) = both (path_text path) (below len (10 ^ 7))
words (DeleteLine path) = path_text path
words ReportLine = inl tt

line : (l : ScriptLine) → Decided (IsLine l)
line l = alike (λ h. let s = h.1 in record { words = h.0; short = omega (arith, s) }) (λ t. let s = t.short in (t.words, omega (arith, s)))
    (both (words l) (below (length (line_bytes l)) 2049))

last_or_below : (k n : ℕ) → k < suc n → (k ≡ n) ⊎ (k < n)
last_or_below k n h = grind arith

-- whether one of the first `n` numbers satisfies a decidable predicate
among : (n : ℕ) (P : ℕ → Type 0) → ((k : ℕ) → Decided (P k)) → Decided ((k : ℕ) × (k < n) × P k)
among zero P d = inr (λ h. let l = h.1 in omega (arith, l))
among (suc n) P d = alike {P = P n ⊎ ((k : ℕ) × (k < n) × P k)}
    (λ h. elim h [ inl p ↦ (n, omega arith, p) | inr q ↦ let l = q.1 in (q.0, omega (arith, l), q.2) ])
    (λ h. elim (last_or_below h.0 n h.1) [ inl e ↦ inl (subst P e h.2) | inr l ↦ inr (h.0, l, h.2) ])
    (either (d n) (among n P d))

module _ (bytes : List ℕ) where
  -- the bytes begin with this command
  abbrev First : Command → Type 0
  First c = IsCommand c × (bytes ≡ command_bytes c ++ drop (length (command_bytes c)) bytes)

  first : (c : Command) → Decided (First c)
  first c = both (line (line_of c)) (same bytes (command_bytes c ++ drop (length (command_bytes c)) bytes))

  -- some part of the bytes satisfies the predicate
  abbrev Somewhere : (List ℕ → Type 0) → Type 0
  Somewhere Q = (i : ℕ) × (i < suc (length bytes)) × ((k : ℕ) × (k < suc (length bytes)) × Q (take k (drop i bytes)))

  somewhere : (Q : List ℕ → Type 0) → ((t : List ℕ) → Decided (Q t)) → Decided (Somewhere Q)
  somewhere Q d =
      among (suc (length bytes)) (λ i. (k : ℕ) × (k < suc (length bytes)) × Q (take k (drop i bytes)))
      (λ i. among (suc (length bytes)) (λ k. Q (take k (drop i bytes))) (λ k. d (take k (drop i bytes))))

  is_part : (a b c : List ℕ) → bytes ≡ a ++ (b ++ c) → (Q : List ℕ → Type 0) → Q b → Somewhere Q
  is_part a b c e Q q =
      let size : length bytes ≡ length (a ++ (b ++ c)) = ap length e in
      let here : b ≡ take (length b) (drop (length a) bytes) =
      sym (ap (λ l. take (length b) (drop (length a) l)) e ∙ ap (take (length b)) (drop_at a (b ++ c) (length a) refl) ∙ take_at b c (length b) refl) in (
        length a,
        omega (arith, size, length-append a (b ++ c)),
        (length b, omega (arith, size, length-append a (b ++ c), length-append b c), subst Q here q),
      )

  follows : (c : Command) (more : List ℕ) → bytes ≡ command_bytes c ++ more → bytes ≡ command_bytes c ++ drop (length (command_bytes c)) bytes
  follows c more e =
      e ∙ ap (λ l. command_bytes c ++ l)
      (sym (ap (drop (length (command_bytes c))) e ∙ drop_at (command_bytes c) more (length (command_bytes c)) refl))

  -- the bytes begin with one of the commands made of parts of them
  abbrev OneOfThem : Type 0
  OneOfThem = First Report ⊎ (Somewhere (λ path. First (Delete path)) ⊎ Somewhere (λ path. Somewhere (λ put. First (Put path put))))

  of_parts : (c : Command) → First c → OneOfThem
  of_parts Report f = inl f
  of_parts (Delete path) f = inr (inl (is_part (codes "delete ") path (10 ∷ drop (length (command_bytes (Delete path))) bytes) (f.1 ∙ simp append_assoc) (λ t. First (Delete t)) f))
  of_parts (Put path put) f =
      let rest : List ℕ = drop (length (command_bytes (Put path put))) bytes in
      inr (inr (is_part (codes "put ") path _ (f.1 ∙ regroup (codes "put ") path (codes " ") (decimal (length put)) (10 ∷ (put ++ 10 ∷ [])) rest) (λ t. Somewhere (λ u. First (Put t u)))
      (is_part (line_bytes (PutLine path (length put)) ++ 10 ∷ []) put (10 ∷ rest) (f.1 ∙ put_last (line_bytes (PutLine path (length put))) put rest) (λ u. First (Put path u)) f)))
    where
      regroup : (a b c d e rest : List ℕ) → (((a ++ b) ++ c) ++ d ++ e) ++ rest ≡ a ++ (b ++ (c ++ (d ++ (e ++ rest))))
      regroup a b c d e rest = simp append_assoc

      put_last : (line put rest : List ℕ) → (line ++ 10 ∷ (put ++ 10 ∷ [])) ++ rest ≡ (line ++ 10 ∷ []) ++ (put ++ 10 ∷ rest)
      put_last line put rest = simp append_assoc

  begins : OneOfThem → BeginsWithCommand bytes
  begins h = elim h [
    | inl f ↦ by Report f
    | inr h ↦ elim h [
      | inl d ↦ by (Delete (take d.2.0 (drop d.0 bytes))) d.2.2
      | inr p ↦ let q = p.2.2 in by (Put (take p.2.0 (drop p.0 bytes)) (take q.2.0 (drop q.0 bytes))) q.2.2
    ]
  ]
    where
      by : (c : Command) → First c → BeginsWithCommand bytes
      by c f = (c, drop (length (command_bytes c)) bytes, f.0, f.1)

  pub begins_or_not : Decided (BeginsWithCommand bytes)
  begins_or_not = alike begins (λ b. of_parts b.0 (b.2, follows b.0 b.1 b.3)) (either (first Report) (either (somewhere (λ path. First (Delete path)) (λ path. first (Delete path)))
      (somewhere (λ path. Somewhere (λ put. First (Put path put))) (λ path. somewhere (λ put. First (Put path put)) (λ put. first (Put path put))))))
