-- Objects whose fields are all strings: the type of each name, and what all fields have in common.
use Rattle.std.proofs.Common.{◌≡◌, ◌+◌, arith, ℕ, List, [], ◌∷◌, ◌++◌, length, refl, sym, ap, subst, ◌∙◌, Bool, true, false, Option, Some, None, option_map, nat_eq}
use Rattle.std.proofs.lemmas.Grind.{common_steps}
use Rattle.std.proofs.lemmas.Bool.{cond_both}
use Rattle.std.proofs.lemmas.List.{map-append}
use Rattle.std.specs.Prelude.{if◌then◌else◌, is_none}
use Rattle.al_base.specs.Names.{same_name}
use Rattle.al_base.specs.NamePlaces.{name_place}
use Rattle.al_types.specs.Indexes.{name_at}
use Rattle.al_types.specs.Strings.{strings}
use Rattle.al_types.specs.Puts.{TypedName, firsts, put_all, put_new}
use Rattle.al_types.specs.Types.{Absent, Present, String, common_in, field_at, fuse_optional, optional, parts_with}
use Rattle.al_types.proofs.GatheredFields.{firsts_found}
use Rattle.al_types.proofs.Puts.{put_new_any}
use Rattle.al_types.specs.TypeParts.{string_unless}

at_step : (b : Bool) (o : Option ℕ) → (if b then Some String else option_map (λ i. String) o)
    ≡ option_map (λ i. String) (if b then Some 0 else option_map (λ i. i + 1) o)
at_step true o = refl
at_step false None = refl
at_step false (Some i) = refl

-- The type of a name is a string if it is one of theirs.
pub string_at : (ns : List (List ℕ)) (n : List ℕ) → field_at n (strings ns) ≡ option_map (λ i. String) (name_place ns n)
string_at [] n = refl
string_at (m ∷ ns) n = ap (λ o. if same_name m n then Some String else o) (string_at ns n) ∙ at_step (same_name m n) (name_place ns n)

one_more : (b : Bool) → fuse_optional (Present String) (string_unless b) ≡ Present String
one_more true = refl
one_more false = refl

pub common_strings : (ns : List (List ℕ)) → common_in (strings ns) ≡ string_unless (nat_eq (length ns) 0)
common_strings [] = refl
common_strings (n ∷ ns) =
    let some : nat_eq (length (n ∷ ns)) 0 ≡ false = grind (arith, common_steps) in
    ap (fuse_optional (Present String)) (common_strings ns) ∙ one_more (nat_eq (length ns) 0)
    ∙ ap string_unless (sym some)

common_some : (ns : List (List ℕ)) → fuse_optional (Present String) (common_in (strings ns)) ≡ Present String
common_some ns = ap (fuse_optional (Present String)) (common_strings ns) ∙ one_more (nat_eq (length ns) 0)

-- ---- only the first of equal names

some_string : (m : List ℕ) (ms ns : List (List ℕ)) → common_in (put_all put_new (strings (m ∷ ms)) (strings ns)) ≡ Present String
some_string m ms [] = common_some ms
some_string m ms (n ∷ ns) =
    let P : List TypedName → Type 0 = λ ts. common_in (put_all put_new ts (strings ns)) ≡ Present String in
    let ts = strings (m ∷ ms) in
    subst P (sym (put_new_any ts (n, String))) (cond_both (is_none (name_at ts n)) (ts ++ (n, String) ∷ []) ts P
    (λ e. subst P (map-append (λ (k : List ℕ). (k, String)) (m ∷ ms) (n ∷ [])) (some_string m (ms ++ n ∷ []) ns)) (λ e. some_string m ms ns))

names_common : (ns : List (List ℕ)) → common_in (firsts (strings ns)) ≡ common_in (strings ns)
names_common [] = refl
names_common (n ∷ ns) = some_string n [] ns ∙ sym (common_some ns)

-- Only the first of equal names matters.
pub first_strings : (ns : List (List ℕ)) → parts_with (firsts (strings ns)) Absent ≡ parts_with (strings ns) Absent
first_strings ns =
    λ d. ((λ n. optional (firsts_found (strings ns) n d)), Absent, fuse_optional (names_common ns d) Absent)
