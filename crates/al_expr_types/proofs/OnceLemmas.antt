-- Lists of distinct names: appending a name, pairing them with types, and their positions.
use Rattle.std.proofs.Common.{◌≡◌, ℕ, ◌+◌, ◌<◌, List, [], ◌∷◌, ◌++◌, refl, sym, ap, ◌∙◌, Bool, true, false, ◌||◌, Option, Some, None, option_map, arith, get_or, length, suc, zero}
use Rattle.std.proofs.lemmas.Bool.{not-false, or_parts}
use Rattle.std.proofs.lemmas.List.{map-append}
use Rattle.std.specs.Prelude.{if◌then◌else◌, is_none, is_some, not, ◌&&◌, zip}
use Rattle.std.specs.Cmp.Lexicographic.{nat_list_eq_equiv}
use Rattle.al_base.specs.Names.{lower_case, same_name}
use Rattle.al_types.specs.FusedFields.{are_distinct}
use Rattle.al_base.specs.NamePlaces.{name_place}
use Rattle.al_types.specs.Strings.{strings}
use Rattle.al_types.specs.Types.{Type', String, has_field}
use Rattle.al_types.proofs.JoinedFields.{distinct_more, first_apart, has_field_at, others_apart}
use Rattle.al_types.proofs.StringFields.{string_at}
use Rattle.al_expr_types.specs.Once.{are_once}
use Rattle.al_expr_types.proofs.Merges.{place_same}
use Rattle.al_expr_types.proofs.NameIndexes.{none_there}

some_mapped : (o : Option ℕ) → is_some (option_map (λ i. String) o) ≡ not (is_none o)
some_mapped None = refl
some_mapped (Some i) = refl

-- a name is a field of `strings ns` if and only if it has a position in `ns`
has_by_name : (ns : List (List ℕ)) (n : List ℕ) → has_field n (strings ns) ≡ not (is_none (name_place ns n))
has_by_name ns n = sym (has_field_at n (strings ns)) ∙ ap is_some (string_at ns n) ∙ some_mapped (name_place ns n)

-- appending a new name keeps the names distinct
pub once_more : (ns : List (List ℕ)) (n : List ℕ) → name_place ns n ≡ None → are_once ns ≡ true → are_once (ns ++ n ∷ []) ≡ true
once_more ns n new h =
    ap are_distinct (map-append (λ (k : List ℕ). (k, String)) ns (n ∷ [])) ∙ distinct_more (strings ns) n String
    ∙ ap (λ x. are_once ns && not x) (has_by_name ns n) ∙ (λ d. h d && not (not (is_none (new d))))

lacks_name : (n : List ℕ) (ns : List (List ℕ)) (ts : List Type') → has_field n (strings ns) ≡ false → has_field n (zip ns ts) ≡ false
lacks_name n [] ts h = refl
lacks_name n (m ∷ ns) [] h = refl
lacks_name n (m ∷ ns) (t ∷ ts) h =
    let no = or_parts (same_name m n) (has_field n (strings ns)) h in
    λ d. no.0 d || lacks_name n ns ts no.1 d

-- fields with distinct names are distinct
pub once_distinct : (ns : List (List ℕ)) (ts : List Type') → are_once ns ≡ true → are_distinct (zip ns ts) ≡ true
once_distinct [] ts h = refl
once_distinct (m ∷ ns) [] h = refl
once_distinct (m ∷ ns) (t ∷ ts) h =
    let first = lacks_name m ns ts (first_apart (has_field m (strings ns)) (are_once ns) h) in
    let others = once_distinct ns ts (others_apart (has_field m (strings ns)) (are_once ns) h) in
    λ d. not (first d) && others d

apart_by : (b : Bool) (o : Option ℕ) (i : ℕ) → o ≡ Some i → (b ≡ true → o ≡ None) → b ≡ false
apart_by true o i there h = let no : None ≡ Some i = sym (h refl) ∙ there in absurd cc
apart_by false o i there h = refl

-- each of distinct names is the first with its name
pub once_place : (ns : List (List ℕ)) (i : ℕ) (x : List ℕ) → are_once ns ≡ true → i < length ns → x ≡ get_or ns i x → name_place ns x ≡ Some i
once_place [] i x h lt e = absurd (omega (arith, lt))
once_place (m ∷ ns) zero x h lt e =
    let here : same_name m x ≡ true = ap (same_name m) e ∙ nat_list_eq_equiv.refl (lower_case m) in
    ap (λ b. if b then Some 0 else option_map (λ k. k + 1) (name_place ns x)) here
once_place (m ∷ ns) (suc i) x h lt e =
    let has = has_field m (strings ns) in
    let there : name_place ns x ≡ Some i = once_place ns i x (others_apart has (are_once ns) h) (omega (arith, lt)) e in
    let none : name_place ns m ≡ None =
    none_there (name_place ns m) (sym (not-false (is_none (name_place ns m)) (sym (has_by_name ns m) ∙ first_apart has (are_once ns) h))) in
    let apart : same_name m x ≡ false = apart_by (same_name m x) (name_place ns x) i there (λ is. place_same ns m x is ∙ none) in
    let next : i + 1 ≡ suc i = omega arith in
    ap (λ b. if b then Some 0 else option_map (λ k. k + 1) (name_place ns x)) apart ∙ ap (option_map (λ k. k + 1)) there ∙ ap Some next
