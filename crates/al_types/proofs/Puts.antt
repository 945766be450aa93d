-- Adding a field to others: it is appended, fused with the field of its name, or dropped.
use Rattle.std.proofs.Common.{◌≡◌, ℕ, ◌+◌, List, [], ◌∷◌, ◌++◌, refl, sym, ap, ◌∙◌, Bool, true, false, Option, Some, None, option_map, set, get_or, suc, arith}
use Rattle.std.proofs.lemmas.Bool.{cond-false, cond-true}
use Rattle.std.specs.Prelude.{if◌then◌else◌, is_none}
use Rattle.al_base.specs.Names.{same_name}
use Rattle.al_types.specs.Types.{fuse_type}
use Rattle.al_types.specs.Puts.{TypedName, put_or_fuse, put_new}
use Rattle.al_types.specs.Indexes.{name_at}

step : (b : Bool) (o : Option ℕ) (q : TypedName) (qs more : List TypedName) →
    (if b then q ∷ qs else q ∷ (if is_none o then more else qs)) ≡ (if is_none (if b then Some 0 else option_map (λ i. i + 1) o) then q ∷ more else q ∷ qs)
step true o q qs more = refl
step false None q qs more = refl
step false (Some i) q qs more = refl

-- `put_new` appends the field if no other has its name.
pub put_new_any : (ts : List TypedName) (p : TypedName) → put_new ts p ≡ (if is_none (name_at ts p.0) then ts ++ p ∷ [] else ts)
put_new_any [] p = refl
put_new_any (q ∷ qs) p =
    ap (λ ms. if same_name q.0 p.0 then q ∷ qs else q ∷ ms) (put_new_any qs p)
    ∙ step (same_name q.0 p.0) (name_at qs p.0) q qs (qs ++ p ∷ [])

pub put_new_old : (ts : List TypedName) (p : TypedName) → is_none (name_at ts p.0) ≡ false → put_new ts p ≡ ts
put_new_old ts p e = put_new_any ts p ∙ cond-false (is_none (name_at ts p.0)) (ts ++ p ∷ []) ts e

pub put_new_after : (ts : List TypedName) (p : TypedName) → is_none (name_at ts p.0) ≡ true → put_new ts p ≡ ts ++ p ∷ []
put_new_after ts p e = put_new_any ts p ∙ cond-true (is_none (name_at ts p.0)) (ts ++ p ∷ []) ts e

abbrev fused_at : List TypedName → TypedName → ℕ → TypedName → List TypedName
fused_at ts p i d = set ts i ((get_or ts i d).0, fuse_type (get_or ts i d).1 p.1)

at_step : (b : Bool) (o : Option ℕ) (q : TypedName) (qs more : List TypedName) (p : TypedName) (i : ℕ) (d : TypedName) →
    ((j : ℕ) → o ≡ Some j → more ≡ fused_at qs p j d) → (if b then Some 0 else option_map (λ k. k + 1) o) ≡ Some i →
    (if b then (q.0, fuse_type q.1 p.1) ∷ qs else q ∷ more) ≡ fused_at (q ∷ qs) p i d
at_step true o q qs more p i d h e = let z : 0 ≡ i = cc in ap (λ k. fused_at (q ∷ qs) p k d) z
at_step false None q qs more p i d h e = absurd cc
at_step false (Some j) q qs more p i d h e = let y : j + 1 ≡ i = cc in let z : suc j ≡ i = omega (arith, y) in ap (λ us. q ∷ us) (h j refl) ∙ ap (λ k. fused_at (q ∷ qs) p k d) z

pub put_at : (ts : List TypedName) (p : TypedName) (i : ℕ) (d : TypedName) → name_at ts p.0 ≡ Some i → put_or_fuse ts p ≡ fused_at ts p i d
put_at [] p i d e = absurd cc
put_at (q ∷ qs) p i d e = at_step (same_name q.0 p.0) (name_at qs p.0) q qs (put_or_fuse qs p) p i d (λ j h. put_at qs p j d h) e

after_step : (b : Bool) (o : Option ℕ) (x y z w : List TypedName) → (o ≡ None → y ≡ z) → (if b then Some 0 else option_map (λ k. k + 1) o) ≡ None → (if b then x else y) ≡ (if b then w else z)
after_step true o x y z w h e = absurd cc
after_step false None x y z w h e = h refl
after_step false (Some j) x y z w h e = absurd cc

-- Both ways of adding append the field if no other has its name.
pub put_after : (ts : List TypedName) (p : TypedName) → name_at ts p.0 ≡ None → put_or_fuse ts p ≡ put_new ts p
put_after [] p e = refl
put_after (q ∷ qs) p e =
    after_step (same_name q.0 p.0) (name_at qs p.0) ((q.0, fuse_type q.1 p.1) ∷ qs) (q ∷ put_or_fuse qs p) (q ∷ put_new qs p) (q ∷ qs) (λ h. ap (λ us. q ∷ us) (put_after qs p h)) e

-- the code's update: the field of this name is fused in place
pub put_over : (ts : List TypedName) (p q r : TypedName) (i : ℕ) → name_at ts p.0 ≡ Some i → get_or ts i r ≡ r → q.0 ≡ r.0 → q.1 ≡ fuse_type r.1 p.1 → set ts i q ≡ put_or_fuse ts p
put_over ts p q r i at got name ty =
    ap (λ n. set ts i (n, q.1)) name
    ∙ ap (λ t. set ts i (r.0, t)) ty
    ∙ sym (put_at ts p i r at ∙ ap (λ (u : TypedName). set ts i (u.0, fuse_type u.1 p.1)) got)
