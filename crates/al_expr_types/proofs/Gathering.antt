-- Fusing objects one after another, and their fields one after another.
use Rattle.std.proofs.Common.{◌≡◌, ◌+◌, ◌<◌, ◌≤◌, ℕ, List, [], ◌∷◌, ◌++◌, map, take, length, get_or, zero, suc, Bool, true, false, Option, Some, None, refl, sym, ap, ◌∙◌, arith}
use Rattle.std.proofs.lemmas.Bool.Decides.{nat_tests}
use Rattle.std.proofs.lemmas.List.{map-append, take_more}
use Rattle.std.specs.Bool.{then_some}
use Rattle.std.specs.Prelude.{Contains, is_some, nat_eq, nat_lt, not, option_map, zip}
use Rattle.al_base.specs.NamePlaces.{name_place}
use Rattle.al_types.specs.Strings.{strings}
use Rattle.al_types.proofs.StringFields.{common_strings, string_at}
use Rattle.al_types.specs.TypeParts.{string_unless}
use Rattle.al_types.specs.Types.{Type', String, Optional, Absent, Present, Parts, common_in, fuse_optional, optional}
use Rattle.al_types.specs.Fused.{fuse_parts, fuse_all}
use Rattle.al_types.proofs.FuseLaws.{fused_both, last_turned, nothing_last, optional_assoc, optional_same}
use Rattle.al_expr_types.specs.Parts.{part_in}
use Rattle.al_expr_types.specs.Types.{common_of, no_parts, object_parts, rest_in, strings_parts, type_in}
use Rattle.al_expr_types.specs.declared.objects.Object.{Object}
use Rattle.al_expr_types.specs.declared.ty.Base.TheVariants as base
use Rattle.al_expr_types.specs.declared.ty.Scalar.TheVariants as scalar
use Rattle.al_expr_types.specs.declared.ty.Ty.{Ty}
use Rattle.al_expr_types.specs.declared.parts.Part.{Part}
use Rattle.al_expr_types.specs.declared.parts.Part.TheVariants as part
use Rattle.al_expr_types.proofs.Fusing.{fused_push}

-- ---- optional results as `Optional`

pub rest_is : (ms : List Parts) (o : Option Ty) → rest_in ms o ≡ optional (option_map (type_in ms) o)
rest_is ms None = refl
rest_is ms (Some t) = refl

-- ---- fusing the elements of a list one after another

module _ {X : Type 0} (all : List X → Optional) (one : X → Optional) where
  pub taken : ((xs : List X) (x : X) → all (xs ++ x ∷ []) ≡ fuse_optional (all xs) (one x)) → (xs : List X) (i : ℕ) (x : X) → i < length xs → x ≡ get_or xs i x →
      all (take (i + 1) xs) ≡ fuse_optional (all (take i xs)) (one x)
  taken more xs i x lt e = ap all (take_more xs i x lt ∙ ap (λ y. take i xs ++ y ∷ []) (sym e)) ∙ more (take i xs) x

  pub next : ((xs : List X) (x : X) → all (xs ++ x ∷ []) ≡ fuse_optional (all xs) (one x)) → (xs : List X) (i : ℕ) (x : X) (start so_far new : Optional) → i < length xs →
      x ≡ get_or xs i x → so_far ≡ fuse_optional start (all (take i xs)) → new ≡ fuse_optional so_far (one x) → new ≡ fuse_optional start (all (take (i + 1) xs))
  next more xs i x start so_far new lt e old step =
      step ∙ ap (λ o. fuse_optional o (one x)) old ∙ optional_assoc start (all (take i xs)) (one x) ∙ ap (fuse_optional start) (sym (taken more xs i x lt e))

  -- fusing with an element of the list again changes nothing
  pub held : ((x : X) (xs : List X) → all (x ∷ xs) ≡ fuse_optional (one x) (all xs)) → (xs : List X) (x : X) (k : ℕ) → k < length xs → get_or xs k x ≡ x →
      fuse_optional (all xs) (one x) ≡ all xs
  held first [] x k lt e = absurd (omega (arith, lt))
  held first (y ∷ xs) x zero lt e =
      ap (λ o. fuse_optional o (one x)) (first y xs) ∙ last_turned (one y) (all xs) (one x) ∙ ap (λ z. fuse_optional (fuse_optional (one y) (one z)) (all xs)) (sym e)
      ∙ ap (λ o. fuse_optional o (all xs)) (optional_same (one y)) ∙ sym (first y xs)
  held first (y ∷ xs) x (suc k) lt e =
      ap (λ o. fuse_optional o (one x)) (first y xs) ∙ optional_assoc (one y) (all xs) (one x)
      ∙ ap (fuse_optional (one y)) (held first xs x k (omega (arith, lt)) e) ∙ sym (first y xs)

-- for objects
pub held_object : (f : ℕ → Parts) (ns : List ℕ) (n : ℕ) → Contains ns n → fuse_parts (fuse_all (map f ns)) (f n) ≡ fuse_all (map f ns)
held_object f ns n c =
    let first : (k : ℕ) (ks : List ℕ) → fuse_all (map f (k ∷ ks)) ≡ fuse_parts (f k) (fuse_all (map f ks)) = λ k ks. fused_both (f k ∷ []) (map f ks) in
    λ d. (
      λ name. held (λ ks. (fuse_all (map f ks)).0 name) (λ k. (f k).0 name) (λ k ks. ap (λ p. p.0 name) (first k ks)) ns n c.0 c.1 c.2 d,
      held (λ ks. (fuse_all (map f ks)).1) (λ k. (f k).1) (λ k ks. ap (λ p. p.1) (first k ks)) ns n c.0 c.1 c.2 d,
      held (λ ks. (fuse_all (map f ks)).2) (λ k. (f k).2) (λ k ks. ap (λ p. p.2) (first k ks)) ns n c.0 c.1 c.2 d,
    )

-- for types: appending one
pub common_push : (xs : List Type') (t : Type') → common_of (xs ++ t ∷ []) ≡ fuse_optional (common_of xs) (Present t)
common_push [] t = refl
common_push (x ∷ xs) t = ap (fuse_optional (Present x)) (common_push xs t) ∙ sym (optional_assoc (Present x) (common_of xs) (Present t))

pub types_more : {X : Type 0} (g : X → Type') (xs : List X) (x : X) → common_of (map g (xs ++ x ∷ [])) ≡ fuse_optional (common_of (map g xs)) (Present (g x))
types_more g xs x = ap common_of (map-append g xs (x ∷ [])) ∙ common_push (map g xs) (g x)

-- the common type of fields doesn't depend on their names
pub common_zipped : {X : Type 0} (g : X → Type') (ns : List (List ℕ)) (xs : List X) → length xs ≤ length ns →
    common_in (zip ns (map g xs)) ≡ common_of (map g xs)
common_zipped g [] [] h = refl
common_zipped g [] (x ∷ xs) h = absurd (omega (arith, h))
common_zipped g (n ∷ ns) [] h = refl
common_zipped g (n ∷ ns) (x ∷ xs) h = ap (fuse_optional (Present (g x))) (common_zipped g ns xs (omega (arith, h)))

-- ---- objects one after another

-- a part of one more object, which the code read as `x`
pub of_object : (ms : List Parts) (part : Part) (start new : Optional) (p : Parts) (o x : Object) → p ≡ object_parts ms o → o ≡ x →
    new ≡ fuse_optional start (part_in part (object_parts ms x)) → new ≡ fuse_optional start (part_in part p)
of_object ms part start new p o x is made e = e ∙ ap (λ q. fuse_optional start (part_in part q)) (sym (is ∙ ap (object_parts ms) made))

pub part_nothing : (p : Part) → part_in p no_parts ≡ Absent
part_nothing (part.Named n) = refl
part_nothing _ = refl

part_fused : (p : Part) (a b : Parts) → part_in p (fuse_parts a b) ≡ fuse_optional (part_in p a) (part_in p b)
part_fused (part.Named n) a b = refl
part_fused _ a b = refl

pub gathered_none : (p : Part) (start : Optional) → start ≡ fuse_optional start (part_in p (fuse_all []))
gathered_none p start = sym (ap (fuse_optional start) (part_nothing p) ∙ nothing_last start)

pub parts_more : (p : Part) (f : ℕ → Parts) (ns : List ℕ) (n : ℕ) → part_in p (fuse_all (map f (ns ++ n ∷ []))) ≡ fuse_optional (part_in p (fuse_all (map f ns))) (part_in p (f n))
parts_more p f ns n = ap (part_in p) (fused_push f ns n) ∙ part_fused p (fuse_all (map f ns)) (f n)

-- ---- strings

-- whether a part of string fields with these names is a string
abbrev pub has_string : List (List ℕ) → Part → Bool
has_string ns (part.Named n) = is_some (name_place ns n.now)
has_string ns part.Rest = false
has_string ns part.All = nat_lt 0 (length ns)

string_of : (o : Option ℕ) → optional (option_map (λ i. String) o) ≡ string_unless (not (is_some o))
string_of None = refl
string_of (Some i) = refl

pub part_of_strings : (ns : List (List ℕ)) (p : Part) → part_in p (strings_parts ns) ≡ string_unless (not (has_string ns p))
part_of_strings ns (part.Named n) = ap optional (string_at ns n.now) ∙ string_of (name_place ns n.now)
part_of_strings ns part.Rest = refl
part_of_strings ns part.All =
    let n = length ns in
    let some : nat_eq n 0 ≡ not (nat_lt 0 n) = grind (arith, nat_tests) in
    nothing_last (common_in (strings ns)) ∙ common_strings ns ∙ ap string_unless some

pub one_string : (ms : List Parts) (b : Bool) → rest_in ms (then_some b (record { arrays = 0; of = base.Scalar scalar.String })) ≡ string_unless (not b)
one_string ms true = refl
one_string ms false = refl

-- ---- the types of fields, then the type of other fields

pub fields_then_rest : (start all new common rest : Optional) → all ≡ fuse_optional start common → new ≡ fuse_optional all rest →
    new ≡ fuse_optional start (fuse_optional common rest)
fields_then_rest start all new common rest e f = f ∙ ap (λ o. fuse_optional o rest) e ∙ optional_assoc start common rest
