-- Fusing types and assigning them, by their array depth and the base type.
use Rattle.std.proofs.Common.{◌≡◌, ◌≢◌, ◌<◌, ◌+◌, ℕ, List, [], ◌∷◌, ◌++◌, map, zero, suc, min, refl, ap, ◌∙◌, arith}
use Rattle.std.proofs.lemmas.List.{map-append}
use Rattle.al_types.specs.Types.{Type', Any, ArrayOf, Parts, assignable_type, fuse_type, object_type}
use Rattle.al_types.specs.Fused.{fuse_parts, fuse_all}
use Rattle.al_types.proofs.FuseLaws.{fuse_turned, fused_one_more}
use Rattle.al_expr_types.specs.Types.{arrays_of, base_type, is_any, scalar_type}
use Rattle.al_expr_types.specs.declared.ty.Scalar.{Scalar}
use Rattle.al_expr_types.specs.declared.ty.Scalar.TheVariants as scalar
use Rattle.al_expr_types.specs.declared.ty.Base.{Base}
use Rattle.al_expr_types.specs.declared.ty.Base.TheVariants as base

pub scalar_object : (a : Scalar) (p : Parts) → fuse_type (scalar_type a) (object_type p) ≡ Any
scalar_object scalar.Any p = refl
scalar_object _ p = refl

pub object_scalar : (p : Parts) (a : Scalar) → fuse_type (object_type p) (scalar_type a) ≡ Any
object_scalar p a = fuse_turned (object_type p) (scalar_type a) ∙ scalar_object a p

-- A base type fused with an array is `Any`. Either can be assigned to the other if and only if the base type is `Any`.
pub beside_array : (ms : List Parts) (b : Base) (a : Type') →
    (fuse_type (base_type ms b) (ArrayOf a) ≡ Any) × (assignable_type (base_type ms b) (ArrayOf a) ≡ is_any b) × (assignable_type (ArrayOf a) (base_type ms b) ≡ is_any b)
beside_array ms (base.Scalar scalar.Any) a = (refl, refl, refl)
beside_array ms (base.Scalar _) a = (refl, refl, refl)
beside_array ms (base.Object n) a = (refl, refl, refl)

-- ---- arrays

pub arrays_more : (j k : ℕ) (t : Type') → arrays_of (j + k) t ≡ arrays_of j (arrays_of k t)
arrays_more zero k t = ap (λ n. arrays_of n t) (omega arith)
arrays_more (suc j) k t =
    let e : suc j + k ≡ suc (j + k) = omega arith in ap (λ n. arrays_of n t) e ∙ ap (arrays_of 1) (arrays_more j k t)

-- of equal depth
pub fuse_even : (k : ℕ) (x y : Type') → fuse_type (arrays_of k x) (arrays_of k y) ≡ arrays_of k (fuse_type x y)
fuse_even zero x y = refl
fuse_even (suc k) x y = ap ArrayOf (fuse_even k x y)

-- of different depths: `Any`, at the lower depth
pub fuse_uneven : (j k m : ℕ) (x y : Type') → ((a : Type') → fuse_type x (ArrayOf a) ≡ Any) → ((a : Type') → fuse_type y (ArrayOf a) ≡ Any) → j ≢ k → m ≡ min j k →
    fuse_type (arrays_of j x) (arrays_of k y) ≡ arrays_of m Any
fuse_uneven zero zero m x y h g n e = absurd (n refl)
fuse_uneven zero (suc k) m x y h g n e = let none : 0 ≡ m = omega (arith, e) in h (arrays_of k y) ∙ ap (λ l. arrays_of l Any) none
fuse_uneven (suc j) zero m x y h g n e =
    let none : 0 ≡ m = omega (arith, e) in fuse_turned (arrays_of (suc j) x) y ∙ g (arrays_of j x) ∙ ap (λ l. arrays_of l Any) none
fuse_uneven (suc j) (suc k) m x y h g n e =
    let is : suc (min j k) ≡ m = omega (arith, e) in
    ap ArrayOf (fuse_uneven j k (min j k) x y h g (λ s. n (ap suc s)) refl) ∙ ap (λ l. arrays_of l Any) is

-- ---- objects

-- one more object
pub fused_push : (f : ℕ → Parts) (ns : List ℕ) (n : ℕ) → fuse_all (map f (ns ++ n ∷ [])) ≡ fuse_parts (fuse_all (map f ns)) (f n)
fused_push f ns n = ap fuse_all (map-append f ns (n ∷ [])) ∙ fused_one_more (map f ns) (f n)

-- ---- assigning one type to another

pub assign_even : (k : ℕ) (x y : Type') → assignable_type (arrays_of k x) (arrays_of k y) ≡ assignable_type x y
assign_even zero x y = refl
assign_even (suc k) x y = assign_even k x y

pub assign_more : (ms : List Parts) (j k : ℕ) (x : Base) (y : Type') → j < k → assignable_type (arrays_of j (base_type ms x)) (arrays_of k y) ≡ is_any x
assign_more ms j zero x y lt = absurd (omega (arith, lt))
assign_more ms zero (suc k) x y lt = (beside_array ms x (arrays_of k y)).1
assign_more ms (suc j) (suc k) x y lt = assign_more ms j k x y (omega (arith, lt))

pub assign_fewer : (ms : List Parts) (j k : ℕ) (x : Type') (y : Base) → k < j → assignable_type (arrays_of j x) (arrays_of k (base_type ms y)) ≡ is_any y
assign_fewer ms zero k x y lt = absurd (omega (arith, lt))
assign_fewer ms (suc j) zero x y lt = (beside_array ms y (arrays_of j x)).2
assign_fewer ms (suc j) (suc k) x y lt = assign_fewer ms j k x y (omega (arith, lt))
