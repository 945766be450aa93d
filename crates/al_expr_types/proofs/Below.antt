-- Types, objects and joins whose object numbers are in bounds: they stay so, and mean the same, in a table that has the same objects there.
use Rattle.std.proofs.Common.{◌≡◌, ◌<◌, ◌≤◌, ℕ, List, [], ◌∷◌, ◌++◌, map, take, length, get_or, Bool, true, Option, Some, None, refl, sym, ap, ◌∙◌, arith}
use Rattle.std.proofs.lemmas.Bool.{and_parts, lt-ltb, ltb-true}
use Rattle.std.proofs.lemmas.List.{get_or_append_left, take-append-drop}
use Rattle.std.proofs.lemmas.List.Elements.{All-get_or}
use Rattle.std.proofs.lemmas.List.Folds.{list_all-append}
use Rattle.std.proofs.lemmas.List.Sums.{AllPass-from_list_all}
use Rattle.std.specs.Prelude.{◌&&◌, nat_lt, zip, drop}
use Rattle.std.specs.List.{list_all}
use Rattle.al_types.specs.Types.{Parts, Present, fuse_optional, object_type, parts_with}
use Rattle.al_types.specs.Fused.{fuse_all}
use Rattle.al_expr_types.specs.Joining.{is_join_below, join_in}
use Rattle.al_expr_types.specs.Names.{names_in}
use Rattle.al_expr_types.specs.Types.{common_of, are_below, are_fields_below, arrays_of, base_type, fields_parts, is_base_below, is_below, is_extended_below, is_object_below, is_rest_below, no_parts}
use Rattle.al_expr_types.specs.Types.{object_in, object_parts, rest_in, type_in}
use Rattle.al_expr_types.specs.declared.joining.Join.{Join}
use Rattle.al_expr_types.specs.declared.joining.Join.TheVariants as joined
use Rattle.al_expr_types.specs.declared.ty.Base.{Base}
use Rattle.al_expr_types.specs.declared.ty.Base.TheVariants as base
use Rattle.al_expr_types.specs.declared.ty.Ty.{Ty}
use Rattle.al_expr_types.specs.declared.objects.Extension.{Extension}
use Rattle.al_expr_types.specs.declared.objects.Fields.{Fields}
use Rattle.al_expr_types.specs.declared.objects.Object.{Object}
use Rattle.al_expr_types.specs.declared.objects.Object.TheVariants as object

-- ---- predicates on all elements of a list

module _ {X : Type 0} where
  pub all_taken : (test : X → Bool) (n : ℕ) (xs : List X) → list_all test xs ≡ true → list_all test (take n xs) ≡ true
  all_taken test n xs h =
      (and_parts (list_all test (take n xs)) (list_all test (drop n xs)) (sym (list_all-append test (take n xs) (drop n xs)) ∙ ap (list_all test) (take-append-drop n xs) ∙ h)).0

  pub all_weaker : (test other : X → Bool) → ((x : X) → test x ≡ true → other x ≡ true) → (xs : List X) → list_all test xs ≡ true → list_all other xs ≡ true
  all_weaker test other each [] h = refl
  all_weaker test other each (x ∷ xs) h =
      let both = and_parts (test x) (list_all test xs) h in λ d. each x both.0 d && all_weaker test other each xs both.1 d

  pub all_more : (test : X → Bool) (xs : List X) (x : X) → list_all test xs ≡ true → test x ≡ true → list_all test (xs ++ x ∷ []) ≡ true
  all_more test xs x h k = list_all-append test xs (x ∷ []) ∙ (λ d. h d && (k d && true))

  pub same_mapped : {Y : Type 0} (test : X → Bool) (f g : X → Y) → ((x : X) → test x ≡ true → f x ≡ g x) → (xs : List X) → list_all test xs ≡ true → map f xs ≡ map g xs
  same_mapped test f g each [] h = refl
  same_mapped test f g each (x ∷ xs) h =
      let both = and_parts (test x) (list_all test xs) h in λ d. each x both.0 d ∷ same_mapped test f g each xs both.1 d

  pub all_at : (test : X → Bool) (xs : List X) (i : ℕ) (x : X) → i < length xs → list_all test xs ≡ true → test (get_or xs i x) ≡ true
  all_at test xs i x lt h = All-get_or (λ y. test y ≡ true) xs i x lt (AllPass-from_list_all test xs h)

-- each number of a list is below the bound
pub number_at : (n : ℕ) (ns : List ℕ) (i : ℕ) → i < length ns → are_below n ns ≡ true → get_or ns i 0 < n
number_at n ns i lt h = ltb-true (get_or ns i 0) n (all_at (λ k. nat_lt k n) ns i 0 lt h)

-- ---- tables that have the same objects below `m`, where `m` is at most `n`

abbrev pub Has : List Parts → List Parts → ℕ → ℕ → Type 0
Has new old m n = (k : ℕ) → nat_lt k m ≡ true → (nat_lt k n ≡ true) × (object_in new k ≡ object_in old k)

pub has_itself : (ms : List Parts) (m n : ℕ) → m ≤ n → Has ms ms m n
has_itself ms m n le k h = let lt = ltb-true k m h in (lt-ltb k n (omega (arith, lt, le)), refl)

pub has_longer : (ms more : List Parts) (m n : ℕ) → m ≤ length ms → m ≤ n → Has (ms ++ more) ms m n
has_longer ms more m n there le k h =
    let lt = ltb-true k m h in (lt-ltb k n (omega (arith, lt, le)), get_or_append_left ms more no_parts k (omega (arith, lt, there)))

module _ (new old : List Parts) (m n : ℕ) (has : Has new old m n) where
  base_same : (b : Base) → is_base_below m b ≡ true → (is_base_below n b ≡ true) × (base_type new b ≡ base_type old b)
  base_same (base.Scalar s) h = (refl, refl)
  base_same (base.Object k) h = ((has k h).0, ap object_type (has k h).1)

  pub type_same : (t : Ty) → is_below m t ≡ true → (is_below n t ≡ true) × (type_in new t ≡ type_in old t)
  type_same t h = let same = base_same t.of h in (same.0, ap (arrays_of t.arrays) same.1)

  pub rest_same : (t : Option Ty) → is_rest_below m t ≡ true → (is_rest_below n t ≡ true) × (rest_in new t ≡ rest_in old t)
  rest_same None h = (refl, refl)
  rest_same (Some t) h = let same = type_same t h in (same.0, ap Present same.1)

  pub types_same : (ts : List Ty) → list_all (is_below m) ts ≡ true → (list_all (is_below n) ts ≡ true) × (map (type_in new) ts ≡ map (type_in old) ts)
  types_same ts h =
      (all_weaker (is_below m) (is_below n) (λ t k. (type_same t k).0) ts h, same_mapped (is_below m) (type_in new) (type_in old) (λ t k. (type_same t k).1) ts h)

  pub numbers_same : (ns : List ℕ) → are_below m ns ≡ true → (are_below n ns ≡ true) × (map (object_in new) ns ≡ map (object_in old) ns)
  numbers_same ns h = (
    all_weaker (λ k. nat_lt k m) (λ k. nat_lt k n) (λ k e. (has k e).0) ns h,
    same_mapped (λ k. nat_lt k m) (object_in new) (object_in old) (λ k e. (has k e).1) ns h,
  )

  pub fields_same : (f : Fields) → are_fields_below m f ≡ true → (are_fields_below n f ≡ true) × (fields_parts new f ≡ fields_parts old f)
  fields_same f h =
      let ts = f.map.value.types.items in
      let both = and_parts (list_all (is_below m) ts) (is_rest_below m f.rest) h in
      let all = types_same ts both.0 in
      let first = types_same (take f.count ts) (all_taken (is_below m) f.count ts both.0) in
      let rest = rest_same f.rest both.1 in
      (λ d. all.0 d && rest.0 d, λ d. parts_with (zip (names_in f.map.value.names) (first.1 d)) (rest.1 d))

  pub object_same : (o : Object) → is_object_below m o ≡ true → (is_object_below n o ≡ true) × (object_parts new o ≡ object_parts old o)
  object_same (object.Fields f) h = fields_same f h
  object_same (object.Extension e) h =
      let both = and_parts (are_fields_below m e.fields) (is_extended_below m e) h in
      let after = and_parts (nat_lt e.base.object m) (list_all (is_below m) e.own.items) both.1 in
      let fields = fields_same e.fields both.0 in
      let base = has e.base.object after.0 in
      let own = types_same e.own.items after.1 in
      (λ d. fields.0 d && (base.0 d && own.0 d), λ d. ((fields.1 d).0, (fields.1 d).1, fuse_optional (base.1 d).2 (common_of (own.1 d))))
  object_same (object.Strings ns) h = (refl, refl)
  object_same (object.Common ns) h = let same = numbers_same ns.value.items h in (same.0, ap fuse_all same.1)

  pub joined_same : (j : Join) → is_join_below m j ≡ true → (is_join_below n j ≡ true) × (join_in new j ≡ join_in old j)
  joined_same joined.Nothing h = (refl, refl)
  joined_same (joined.One t) h = let same = type_same t h in (same.0, ap Present same.1)
  joined_same (joined.Objects s) h =
      let same = numbers_same s.objects.items h in (same.0, ap (λ ps. Present (arrays_of s.arrays (object_type (fuse_all ps)))) same.1)

-- ---- the objects that an object refers to

pub object_wider : (m n : ℕ) (o x : Object) → m < n → o ≡ x → is_object_below m o ≡ true → is_object_below n x ≡ true
object_wider m n o x lt is h = ap (is_object_below n) (sym is) ∙ (object_same [] [] m n (has_itself [] m n (omega (arith, lt))) o h).0

pub base_below : (n : ℕ) (e : Extension) → is_object_below n (object.Extension e) ≡ true → e.base.object < n
base_below n e h =
    let after = (and_parts (are_fields_below n e.fields) (is_extended_below n e) h).1 in
    ltb-true e.base.object n (and_parts (nat_lt e.base.object n) (list_all (is_below n) e.own.items) after).0
