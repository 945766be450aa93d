-- Bytes begin with at most one command, and bytes that are wrong never become a command.
use Rattle.std.proofs.Common.{◌≡◌, ◌≢◌, ℕ, ◌+◌, ◌%◌, ◌^◌, ◌≤◌, ◌<◌, inl, inr, List, [], ◌∷◌, ◌++◌, length, get_or, take}
use Rattle.std.proofs.Common.{drop, All, refl, sym, ap, subst, ◌∙◌, arith, append_assoc, codes, length-append, rules}
use Rattle.std.proofs.lemmas.List.{length-take, get_or-take, get_or_append_left}
use Rattle.std.proofs.Math.Seq.{get_or-append_seam}
use Rattle.std.specs.List.{AllByRecursion}
use Rattle.std.specs.Fmt.{decimal}
use Rattle.std.proofs.lemmas.Fmt.{decimal_injective, decimal_by_steps}
use Rattle.std.proofs.lemmas.List.Elements.{All-tail, All-append, All-cons, All-from_recursion, All-nil, All-weaker}
use Rattle.al_cli_scripts.specs.Script.{Command, Put, Delete, Report, ScriptLine, PutLine, DeleteLine, ReportLine, IsLine, line_bytes, line_of}
use Rattle.al_cli_scripts.specs.Script.{body_of, HasNoBreak, command_bytes, IsCommand, IsWrong, BeginsWithCommand}

-- the first occurrence of `k` splits a list in only one way
pub first_unique : (k : ℕ) (xs ys u v : List ℕ) → All (λ b. b ≢ k) xs → All (λ b. b ≢ k) ys → xs ++ k ∷ u ≡ ys ++ k ∷ v → (xs ≡ ys) × (u ≡ v)
first_unique k [] [] u v p q e = (refl, cc)
first_unique k [] (y ∷ ys) u v p q e = absurd (q 0 y (omega arith) cc)
first_unique k (x ∷ xs) [] u v p q e = absurd (p 0 x (omega arith) cc)
first_unique k (x ∷ xs) (y ∷ ys) u v p q e =
    let rest : xs ++ k ∷ u ≡ ys ++ k ∷ v = cc in
    let more = first_unique k xs ys u v (All-tail (λ b. b ≢ k) x xs p) (All-tail (λ b. b ≢ k) y ys q) rest in
    let a : xs ≡ ys = more.0 in (cc, more.1)

pub has_none : (k : ℕ) (q y : List ℕ) → All (λ b. b ≢ k) (q ++ k ∷ y) → ⊥
has_none k [] y p = p 0 k (omega arith) refl
has_none k (b ∷ q) y p = has_none k q y (All-tail (λ d. d ≢ k) b (q ++ k ∷ y) p)

-- so does the last occurrence
pub last_unique : (k : ℕ) (p q x y : List ℕ) → All (λ b. b ≢ k) x → All (λ b. b ≢ k) y → p ++ k ∷ x ≡ q ++ k ∷ y → (p ≡ q) × (x ≡ y)
last_unique k [] [] x y a b e = (refl, cc)
last_unique k [] (c ∷ q) x y a b e = let f : x ≡ q ++ k ∷ y = cc in absurd (has_none k q y (subst (All (λ d. d ≢ k)) f a))
last_unique k (c ∷ p) [] x y a b e = let f : y ≡ p ++ k ∷ x = cc in absurd (has_none k p x (subst (All (λ d. d ≢ k)) f b))
last_unique k (c ∷ p) (d ∷ q) x y a b e =
    let rest : p ++ k ∷ x ≡ q ++ k ∷ y = cc in
    let more = last_unique k p q x y a b rest in
    let f : p ≡ q = more.0 in (cc, more.1)

digits_high : (n : ℕ) → n < 2 ^ 64 → All (λ b. 48 ≤ b) (decimal n)
digits_high n h = decimal_by_steps (λ _ ds. All (λ b. 48 ≤ b) ds)
    (λ m _. All-cons (λ b. 48 ≤ b) (48 + m) [] (omega arith) (All-nil _))
    (λ m ds _ p. All-append (λ b. 48 ≤ b) ds ((48 + m % 10) ∷ []) p (All-cons (λ b. 48 ≤ b) (48 + m % 10) [] (omega arith) (All-nil _))) n h

pub digits_without : (k n : ℕ) → k < 48 → n < 2 ^ 64 → All (λ b. b ≢ k) (decimal n)
digits_without k n small h = λ i d l e. let high = digits_high n h i d l in absurd (omega (arith, high, e))

unbroken : (bs : List ℕ) → AllByRecursion (λ b. 10 < b) bs → HasNoBreak bs
unbroken bs h = All-weaker (λ b. 10 < b) (λ b. b ≢ 10) (λ b l e. omega (arith, l, e)) bs (All-from_recursion (λ b. 10 < b) bs h)

pub line_unbroken : (l : ScriptLine) → IsLine l → HasNoBreak (line_bytes l)
line_unbroken (PutLine path len) l =
    let digits : HasNoBreak (decimal len) = digits_without 10 len (omega arith) (let h : len < 10 ^ 7 = l.words.1 in omega arith) in
    All-append (λ b. b ≢ 10) ((codes "put " ++ path) ++ codes " ") (decimal len)
    (All-append (λ b. b ≢ 10) (codes "put " ++ path) (codes " ")
    (All-append (λ b. b ≢ 10) (codes "put ") path (unbroken (codes "put ") (search rules)) l.words.0.one_line) (unbroken (codes " ") (search rules))) digits
line_unbroken (DeleteLine path) l = All-append (λ b. b ≢ 10) (codes "delete ") path (unbroken (codes "delete ") (search rules)) l.words.one_line
line_unbroken ReportLine l = unbroken (codes "report") (search rules)

pub line_unique : (l m : ScriptLine) → IsLine l → IsLine m → line_bytes l ≡ line_bytes m → l ≡ m
line_unique (PutLine p n) (PutLine q m) a b e =
    let f : (p ++ 32 ∷ []) ++ decimal n ≡ (q ++ 32 ∷ []) ++ decimal m = ap (drop 4) e in
    let g : p ++ 32 ∷ decimal n ≡ q ++ 32 ∷ decimal m = sym (append_assoc p (32 ∷ []) (decimal n)) ∙ f ∙ append_assoc q (32 ∷ []) (decimal m) in
    let hn : n < 2 ^ 64 = let h : n < 10 ^ 7 = a.words.1 in omega arith in
    let hm : m < 2 ^ 64 = let h : m < 10 ^ 7 = b.words.1 in omega arith in
    let s = last_unique 32 p q (decimal n) (decimal m) (digits_without 32 n (omega arith) hn) (digits_without 32 m (omega arith) hm) g in
    let x : p ≡ q = s.0 in
    let y : n ≡ m = decimal_injective n m hn hm s.1 in
    cc
line_unique (DeleteLine p) (DeleteLine q) a b e = ap DeleteLine (ap (drop 7) e)
line_unique ReportLine ReportLine a b e = refl
line_unique l m a b e = absurd (let first : get_or (line_bytes l) 0 0 ≡ get_or (line_bytes m) 0 0 = ap (λ bs. get_or bs 0 0) e in omega (arith, first))

same_prefix : (a b x y : List ℕ) → length a ≡ length b → a ++ x ≡ b ++ y → (a ≡ b) × (x ≡ y)
same_prefix [] [] x y l e = (refl, e)
same_prefix [] (d ∷ b) x y l e = absurd (omega arith)
same_prefix (c ∷ a) [] x y l e = absurd (omega arith)
same_prefix (c ∷ a) (d ∷ b) x y l e =
    let rest : a ++ x ≡ b ++ y = cc in
    let n : length a ≡ length b = omega arith in
    let more = same_prefix a b x y n rest in
    let f : a ≡ b = more.0 in (cc, more.1)

body_unique : (c d : Command) (x y : List ℕ) → line_of c ≡ line_of d → body_of c ++ x ≡ body_of d ++ y → (c ≡ d) × (x ≡ y)
body_unique (Put p b) (Put q a) x y l e =
    let same : p ≡ q = cc in
    let n : length b ≡ length a = cc in
    let m : length (b ++ 10 ∷ []) ≡ length (a ++ 10 ∷ []) = omega (arith, n, length-append b (10 ∷ []), length-append a (10 ∷ [])) in
    let s = same_prefix (b ++ 10 ∷ []) (a ++ 10 ∷ []) x y m e in
    let t = same_prefix b a (10 ∷ []) (10 ∷ []) n s.0 in
    let f : b ≡ a = t.0 in (cc, s.1)
body_unique (Delete p) (Delete q) x y l e = let f : p ≡ q = cc in (ap Delete f, e)
body_unique Report Report x y l e = (refl, e)
body_unique _ _ x y l e = absurd cc

pub command_unique : (c d : Command) (x y : List ℕ) → IsCommand c → IsCommand d → command_bytes c ++ x ≡ command_bytes d ++ y → (c ≡ d) × (x ≡ y)
command_unique c d x y p q e =
    let f : line_bytes (line_of c) ++ 10 ∷ (body_of c ++ x) ≡ line_bytes (line_of d) ++ 10 ∷ (body_of d ++ y) =
    sym (append_assoc (line_bytes (line_of c)) (10 ∷ body_of c) x) ∙ e ∙ append_assoc (line_bytes (line_of d)) (10 ∷ body_of d) y in
    let s = first_unique 10 (line_bytes (line_of c)) (line_bytes (line_of d)) (body_of c ++ x) (body_of d ++ y) (line_unbroken (line_of c) p) (line_unbroken (line_of d) q) f in
    body_unique c d x y (line_unique (line_of c) (line_of d) p q s.0) s.1

-- a list whose first `m` elements aren't `k` can't have its first `k` before them, whatever is appended
pub no_early : (k m : ℕ) (bytes more line rest : List ℕ) → m ≤ length bytes → All (λ b. b ≢ k) (take m bytes) → length line < m → bytes ++ more ≡ line ++ k ∷ rest → ⊥
no_early k m bytes more line rest long none short e =
    let n : ℕ = length line in
    let here : get_or (line ++ k ∷ rest) n 0 ≡ k = get_or-append_seam line k rest 0 in
    let there : get_or (bytes ++ more) n 0 ≡ get_or bytes n 0 = get_or_append_left bytes more 0 n (omega arith) in
    let taken : get_or (take m bytes) n 0 ≡ get_or bytes n 0 = get_or-take m bytes n 0 short in
    let inside : n < length (take m bytes) = omega (arith, length-take m bytes) in
    none n 0 inside (taken ∙ sym there ∙ ap (λ l. get_or l n 0) e ∙ here)

wrong_line : (bytes more line more' : List ℕ) → bytes ≡ line ++ 10 ∷ more' → HasNoBreak line → ((l : ScriptLine) → IsLine l → line ≢ line_bytes l) → BeginsWithCommand (bytes ++ more) → ⊥
wrong_line bytes more line more' e plain never b =
    let c : Command = b.0 in
    let f : line ++ 10 ∷ (more' ++ more) ≡ line_bytes (line_of c) ++ 10 ∷ (body_of c ++ b.1) =
    sym (append_assoc line (10 ∷ more') more) ∙ ap (λ l. l ++ more) (sym e) ∙ b.3 ∙ append_assoc (line_bytes (line_of c)) (10 ∷ body_of c) b.1 in
    never (line_of c) b.2 (first_unique 10 line (line_bytes (line_of c)) _ _ plain (line_unbroken (line_of c) b.2) f).0

end_of : (c : Command) (path put : List ℕ) (end : ℕ) (x y : List ℕ) → line_of c ≡ PutLine path (length put) → put ++ end ∷ x ≡ body_of c ++ y → end ≡ 10
end_of (Put p b) path put end x y l e =
    let n : length put ≡ length b = cc in
    let f : put ++ end ∷ x ≡ b ++ 10 ∷ y = e ∙ append_assoc b (10 ∷ []) y in
    let s = same_prefix put b (end ∷ x) (10 ∷ y) n f in
    let t : end ∷ x ≡ 10 ∷ y = s.1 in cc
end_of _ path put end x y l e = absurd cc

pub wrong_never : (bytes more : List ℕ) → IsWrong bytes → BeginsWithCommand (bytes ++ more) → ⊥
wrong_never bytes more w b = elim w [
  | inl v ↦ wrong_line bytes more v.0 v.1 v.2 v.3 v.4 b
  | inr v ↦ elim v [
    | inl u ↦
        let c : Command = b.0 in
        let short : length (line_bytes (line_of c)) ≤ 2048 = b.2.short in
        no_early 10 2049 bytes more (line_bytes (line_of c)) (body_of c ++ b.1) u.0 u.1 (omega arith) (b.3 ∙ append_assoc (line_bytes (line_of c)) (10 ∷ body_of c) b.1)
    | inr u ↦
        let c : Command = b.0 in
        let line : List ℕ = line_bytes (PutLine u.0 (length u.1)) in
        let f : line ++ 10 ∷ (u.1 ++ u.2 ∷ (u.3 ++ more)) ≡ line_bytes (line_of c) ++ 10 ∷ (body_of c ++ b.1) =
        sym (append_assoc line (10 ∷ u.1) (u.2 ∷ (u.3 ++ more))) ∙ sym (append_assoc (line ++ 10 ∷ u.1) (u.2 ∷ u.3) more)
        ∙ ap (λ l. l ++ more) (sym u.5) ∙ b.3 ∙ append_assoc (line_bytes (line_of c)) (10 ∷ body_of c) b.1 in
        let s = first_unique 10 line (line_bytes (line_of c)) _ _ (line_unbroken (PutLine u.0 (length u.1)) u.4) (line_unbroken (line_of c) b.2) f in
        u.6 (end_of c u.0 u.1 u.2 (u.3 ++ more) b.1 (sym (line_unique (PutLine u.0 (length u.1)) (line_of c) u.4 b.2 s.0)) s.1)
  ]
]

pub wrong_nonempty : (bytes more : List ℕ) → IsWrong bytes → bytes ++ more ≢ []
wrong_nonempty bytes more w e = elim w [
  | inl v ↦ let f : length bytes ≡ length (v.0 ++ 10 ∷ v.1) = ap length v.2 in let z : length (bytes ++ more) ≡ 0 = ap length e in
      absurd (omega (arith, f, z, length-append v.0 (10 ∷ v.1), length-append bytes more))
  | inr v ↦ elim v [
    | inl u ↦ let h : 2049 ≤ length bytes = u.0 in let z : length (bytes ++ more) ≡ 0 = ap length e in absurd (omega (arith, h, z, length-append bytes more))
    | inr u ↦ let line : List ℕ = line_bytes (PutLine u.0 (length u.1)) in
        let f : length bytes ≡ length ((line ++ 10 ∷ u.1) ++ u.2 ∷ u.3) = ap length u.5 in let z : length (bytes ++ more) ≡ 0 = ap length e in
        absurd (omega (arith, f, z, length-append (line ++ 10 ∷ u.1) (u.2 ∷ u.3), length-append bytes more))
  ]
]
