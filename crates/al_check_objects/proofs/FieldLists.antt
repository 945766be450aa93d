-- Adding fields to lists of fields, and the common type of all fields.
use Rattle.std.proofs.Common.{◌≡◌, ◌<◌, ◌+◌, ℕ, List, [], ◌∷◌, ◌++◌, length, map, take, get_or, refl, sym, ap, ◌∙◌, Bool, true, false, Option, Some, None}
use Rattle.std.proofs.lemmas.List.{get_or_default, map-append}
use Rattle.std.proofs.lemmas.List.Elements.{filter_map-append}
use Rattle.std.specs.List.{cons_option, filter_map}
use Rattle.std.specs.Option.{option_to_list}
use Rattle.std.specs.Prelude.{if◌then◌else◌}
use Rattle.al_base.specs.Names.{same_name}
use Rattle.al_types.specs.FusedFields.{are_distinct}
use Rattle.al_types.specs.Puts.{TypedName, firsts, put_or_fuse, put_all, put_new}
use Rattle.al_types.specs.Strings.{named_strings, strings}
use Rattle.al_types.specs.Types.{Absent, ObjectOf, Present, String, common_in, fuse_optional, fuse_type, optional}
use Rattle.al_types.proofs.FuseLaws.{last_turned, nothing_last, optional_assoc}
use Rattle.al_types.proofs.GatheredFields.{common_put, firsts_found, found_in_both}
use Rattle.al_expr_types.proofs.Scans.{mapped_more}
use Rattle.al_check_objects.specs.Objects.{strictly}

-- ---- adding several fields

pub put_all_more : (put_or_fuse : List TypedName → TypedName → List TypedName) (ts ps qs : List TypedName) → put_all put_or_fuse ts (ps ++ qs) ≡ put_all put_or_fuse (put_all put_or_fuse ts ps) qs
put_all_more put_or_fuse ts [] qs = refl
put_all_more put_or_fuse ts (p ∷ ps) qs = put_all_more put_or_fuse (put_or_fuse ts p) ps qs

module _ {X Y : Type 0} (g : X → Y) where
  -- one more field
  pub put_next : (f : Y → TypedName) (ts : List TypedName) (xs : List X) (i : ℕ) (x : X) → i < length xs → x ≡ get_or xs i x →
      put_all put_new ts (map f (map g (take (i + 1) xs))) ≡ put_new (put_all put_new ts (map f (map g (take i xs)))) (f (g x))
  put_next f ts xs i x lt e =
      ap (λ ys. put_all put_new ts (map f ys)) (mapped_more g xs i x lt e)
      ∙ ap (put_all put_new ts) (map-append f (map g (take i xs)) (g x ∷ []))
      ∙ put_all_more put_new ts (map f (map g (take i xs))) (f (g x) ∷ [])

  -- likewise, for the element at an index
  pub put_at : (f : Y → TypedName) (ts : List TypedName) (xs : List X) (i : ℕ) (d : X) → i < length xs →
      put_all put_new ts (map f (map g (take (i + 1) xs))) ≡ put_new (put_all put_new ts (map f (map g (take i xs)))) (f (g (get_or xs i d)))
  put_at f ts xs i d lt = put_next f ts xs i (get_or xs i d) lt (get_or_default xs i d (get_or xs i d) lt)

  -- likewise, for elements that may give no field
  pub put_if_next : (f : Y → Option TypedName) (ts : List TypedName) (xs : List X) (i : ℕ) (x : X) → i < length xs → x ≡ get_or xs i x →
      put_all put_new ts (filter_map f (map g (take (i + 1) xs)))
      ≡ put_all put_new (put_all put_new ts (filter_map f (map g (take i xs)))) (option_to_list (f (g x)))
  put_if_next f ts xs i x lt e =
      ap (λ ys. put_all put_new ts (filter_map f ys)) (mapped_more g xs i x lt e)
      ∙ ap (put_all put_new ts) (filter_map-append f (map g (take i xs)) (g x ∷ []))
      ∙ put_all_more put_new ts (filter_map f (map g (take i xs))) (filter_map f (g x ∷ []))
      ∙ ap (put_all put_new (put_all put_new ts (filter_map f (map g (take i xs))))) (alone (f (g x)))
    where
      alone : (o : Option TypedName) → cons_option o [] ≡ option_to_list o
      alone None = refl
      alone (Some p) = refl

-- ---- string fields

-- adds a name, unless it is there
put_name : List (List ℕ) → List ℕ → List (List ℕ)
put_name [] n = n ∷ []
put_name (m ∷ ms) n = if same_name m n then m ∷ ms else m ∷ put_name ms n

named_step : (b : Bool) (m : List ℕ) (ms more : List (List ℕ)) (ts : List TypedName) → ts ≡ strings more →
    (if b then (m, String) ∷ strings ms else (m, String) ∷ ts) ≡ strings (if b then m ∷ ms else m ∷ more)
named_step true m ms more ts e = refl
named_step false m ms more ts e = ap (λ us. (m, String) ∷ us) e

put_string : (ms : List (List ℕ)) (n : List ℕ) → put_new (strings ms) (n, String) ≡ strings (put_name ms n)
unfolding put_name
put_string [] n = refl
put_string (m ∷ ms) n = named_step (same_name m n) m ms (put_name ms n) (put_new (strings ms) (n, String)) (put_string ms n)

common_step : (b : Bool) (m : List ℕ) (ms : List (List ℕ)) (ts : List TypedName) → common_in ts ≡ fuse_optional (common_in (strings ms)) (Present String) →
    common_in (if b then (m, String) ∷ strings ms else (m, String) ∷ ts) ≡ fuse_optional (common_in (strings (m ∷ ms))) (Present String)
common_step true m ms ts e = sym (last_turned (Present String) (common_in (strings ms)) (Present String))
common_step false m ms ts e =
    ap (fuse_optional (Present String)) e ∙ sym (optional_assoc (Present String) (common_in (strings ms)) (Present String))

common_string : (ms : List (List ℕ)) (n : List ℕ) → common_in (put_new (strings ms) (n, String)) ≡ fuse_optional (common_in (strings ms)) (Present String)
common_string [] n = refl
common_string (m ∷ ms) n = common_step (same_name m n) m ms (put_new (strings ms) (n, String)) (common_string ms n)

common_strings : (ms ns : List (List ℕ)) → common_in (put_all put_new (strings ms) (strings ns)) ≡ fuse_optional (common_in (strings ms)) (common_in (strings ns))
common_strings ms [] = sym (nothing_last (common_in (strings ms)))
common_strings ms (n ∷ ns) =
    let one = put_string ms n in
    ap (λ ts. common_in (put_all put_new ts (strings ns))) one ∙ common_strings (put_name ms n) ns
    ∙ ap (λ o. fuse_optional o (common_in (strings ns))) (ap common_in (sym one) ∙ common_string ms n)
    ∙ optional_assoc (common_in (strings ms)) (Present String) (common_in (strings ns))

-- string fields, the first of each name, make the object of all these names
pub strings_once : (ns : List (List ℕ)) → strictly (firsts (strings ns)) ≡ named_strings ns
strings_once ns =
    λ d. ObjectOf (λ n. optional (firsts_found (strings ns) n d)) Absent (fuse_optional (common_strings [] ns d) Absent)

-- ---- objects whose fields are fused

common_put_all : (ts us : List TypedName) → common_in (put_all put_or_fuse ts us) ≡ fuse_optional (common_in ts) (common_in us)
common_put_all ts [] = sym (nothing_last (common_in ts))
common_put_all ts (p ∷ us) =
    common_put_all (put_or_fuse ts p) us ∙ ap (λ o. fuse_optional o (common_in us)) (common_put ts p)
    ∙ optional_assoc (common_in ts) (Present p.1) (common_in us)

-- fusing the fields of two objects, name by name, is fusing the objects
pub put_together : (ts us : List TypedName) → are_distinct us ≡ true → strictly (put_all put_or_fuse ts us) ≡ fuse_type (strictly ts) (strictly us)
put_together ts us h =
    λ d. ObjectOf (found_in_both ts us h d) Absent (all d)
  where
    all : fuse_optional (common_in (put_all put_or_fuse ts us)) Absent ≡ fuse_optional (fuse_optional (common_in ts) Absent) (fuse_optional (common_in us) Absent)
    all = nothing_last _ ∙ common_put_all ts us ∙ (λ d. fuse_optional (sym (nothing_last (common_in ts)) d) (sym (nothing_last (common_in us)) d))
