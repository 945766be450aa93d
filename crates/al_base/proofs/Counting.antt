-- How the line and the column change from one offset to the next, and their bounds.
use Rattle.std.proofs.Common.{◌≡◌, ℕ, zero, suc, ◌+◌, ◌≤◌, ◌<◌, Bool, true, false, cond, eqb, ◌&&◌, List, get_or, refl, ap, subst, ◌∙◌, arith, add-one, add-zero, add-suc, eq-eqb, ◌-◌}
use Rattle.std.proofs.lemmas.Bool.Decides.{nat_tests}
use Rattle.al_base.specs.Positions.{count_below, ends_break, begins_char, line_at, column_at}

count_below-step : (p : ℕ → Bool) (n : ℕ) → count_below p (n + 1) ≡ count_below p n + cond (p n) 1 0
count_below-step p n = rw add-one refl

count_below-mono : (p : ℕ → Bool) (n d : ℕ) → count_below p n ≤ count_below p (n + d)
count_below-mono p n zero = rw add-zero (omega arith)
count_below-mono p n (suc d) = rw add-suc (let h = count_below-mono p n d in omega arith)

count_below-none : (p : ℕ → Bool) (n : ℕ) → ((k : ℕ) → k < n → p k ≡ false) → count_below p n ≡ 0
count_below-none p zero h = refl
count_below-none p (suc n) h =
    let first = count_below-none p n (λ k l. h k (omega arith)) in
    let last : p n ≡ false = h n (omega arith) in
    rw (first, last) refl

line_at-more : (bytes : List ℕ) (k : ℕ) → line_at bytes (k + 1) ≡ line_at bytes k + cond (ends_break bytes k) 1 0
line_at-more bytes k = let s = count_below-step (ends_break bytes) k in omega (arith, s)

pub line_at-later : (bytes : List ℕ) (j d : ℕ) → line_at bytes j ≤ line_at bytes (j + d)
line_at-later bytes j d = let m = count_below-mono (ends_break bytes) j d in omega (arith, m)

pub line_at-break : (bytes : List ℕ) (k : ℕ) → ends_break bytes k ≡ true → line_at bytes (k + 1) ≡ line_at bytes k + 1
line_at-break bytes k e = rw (line_at-more bytes k, e) refl

pub line_at-same : (bytes : List ℕ) (k : ℕ) → ends_break bytes k ≡ false → line_at bytes (k + 1) ≡ line_at bytes k
line_at-same bytes k e = let m = line_at-more bytes k in let z : cond {A = ℕ} (ends_break bytes k) 1 0 ≡ 0 = rw e refl in omega (arith, m, z)

below_false : (m n : ℕ) (b : Bool) → m < n → (eqb m n && b) ≡ false
below_false m n b h = let e : eqb m n ≡ false = grind (arith, nat_tests) in rw e refl

pub column_at-break : (bytes : List ℕ) (k : ℕ) → ends_break bytes k ≡ true → column_at bytes (k + 1) ≡ 1
column_at-break bytes k e =
    let next = line_at-break bytes k e in
    let none : count_below (λ j. eqb (line_at bytes j) (line_at bytes (k + 1)) && begins_char (get_or bytes j 0)) (k + 1) ≡ 0 =
    count_below-none _ (k + 1) (λ j l.
    let le : line_at bytes j ≤ line_at bytes k = subst (λ (m : ℕ). line_at bytes j ≤ line_at bytes m) (omega arith) (line_at-later bytes j (k - j)) in
    below_false (line_at bytes j) (line_at bytes (k + 1)) _ (omega (arith, le, next))) in
    ap (λ n. 1 + n) none

pub column_at-more : (bytes : List ℕ) (k : ℕ) → ends_break bytes k ≡ false → column_at bytes (k + 1) ≡ column_at bytes k + cond (begins_char (get_or bytes k 0)) 1 0
column_at-more bytes k e =
    let here : ℕ → ℕ → Bool = λ m j. eqb (line_at bytes j) m && begins_char (get_or bytes j 0) in
    let next = line_at-same bytes k e in
    let moved : count_below (here (line_at bytes (k + 1))) (k + 1) ≡ count_below (here (line_at bytes k)) (k + 1) = ap (λ m. count_below (here m) (k + 1)) next in
    let step = count_below-step (here (line_at bytes k)) k in
    let last : here (line_at bytes k) k ≡ begins_char (get_or bytes k 0) = rw (eq-eqb (line_at bytes k) (line_at bytes k) refl) refl in
    ap (λ n. 1 + n) (moved ∙ step ∙ ap (λ b. count_below (here (line_at bytes k)) k + cond b 1 0) last) ∙ omega arith

pub column_at-char : (bytes : List ℕ) (k : ℕ) → ends_break bytes k ≡ false → begins_char (get_or bytes k 0) ≡ true → column_at bytes (k + 1) ≡ column_at bytes k + 1
column_at-char bytes k e b = column_at-more bytes k e ∙ ap (λ t. column_at bytes k + cond t 1 0) b

pub column_at-inner : (bytes : List ℕ) (k : ℕ) → ends_break bytes k ≡ false → begins_char (get_or bytes k 0) ≡ false → column_at bytes (k + 1) ≡ column_at bytes k
column_at-inner bytes k e b = column_at-more bytes k e ∙ ap (λ t. column_at bytes k + cond t 1 0) b ∙ add-zero (column_at bytes k)

count_below-small : (p : ℕ → Bool) (n : ℕ) → count_below p n ≤ n
count_below-small p zero = omega arith
count_below-small p (suc n) = by (p n) refl (count_below-small p n)
  where
    by : (b : Bool) → p n ≡ b → count_below p n ≤ n → count_below p n + cond (p n) 1 0 ≤ suc n
    by true e h = rw e (omega (arith, h))
    by false e h = rw e (omega (arith, h))

pub line_at-small : (bytes : List ℕ) (n : ℕ) → line_at bytes n ≤ n + 1
line_at-small bytes n = let h = count_below-small (ends_break bytes) n in omega (arith, h)

pub column_at-small : (bytes : List ℕ) (n : ℕ) → column_at bytes n ≤ n + 1
column_at-small bytes n = let h = count_below-small (λ k. eqb (line_at bytes k) (line_at bytes n) && begins_char (get_or bytes k 0)) n in omega (arith, h)
