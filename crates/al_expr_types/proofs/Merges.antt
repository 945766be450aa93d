-- Merging one more type of a name into the joins, at the position of its name or at a new one.
use Rattle.std.proofs.Common.{◌≡◌, ◌≢◌, ◌+◌, ◌<◌, ◌≤◌, ℕ, List, [], ◌∷◌, ◌++◌, length, map, get_or, set, take, suc, ⊎_elim, Bool, true, false}
use Rattle.std.proofs.Common.{Option, Some, None, option_map, refl, sym, ap, ◌∙◌, arith}
use Rattle.std.proofs.lemmas.List.{get_or-set_same, get_or-set_other, get_or-take, get_or_append_left, get_or_at, length-take}
use Rattle.std.proofs.lemmas.Option.{slice_get-get_or, slice_get_past}
use Rattle.std.specs.Cmp.Lexicographic.{bytes_decides}
use Rattle.std.specs.Option.{option_eq, option_or}
use Rattle.std.specs.List.{list_all}
use Rattle.std.proofs.lemmas.Bool.Decides.{nat_tests, same_from_decides}
use Rattle.std.specs.Prelude.{◌&&◌, ◌⊎◌, if◌then◌else◌, nat_eq, option_and_then, slice_get, zip}
use Rattle.std.proofs.lemmas.Bool.{and_parts}
use Rattle.std.proofs.lemmas.List.Elements.{All-set}
use Rattle.std.proofs.lemmas.List.Sums.{AllPass-from_list_all, list_all-from_AllPass}
use Rattle.std.specs.Str.{bytes_eq}
use Rattle.al_base.specs.Names.{lower_case, same_name}
use Rattle.al_base.specs.NamePlaces.{first_at, name_place}
use Rattle.al_types.specs.Strings.{strings}
use Rattle.al_types.specs.Types.{Type', String, Optional, Parts, Present, field_at, fuse_optional, optional}
use Rattle.al_types.proofs.FieldsByName.{found_by_name}
use Rattle.al_types.proofs.FuseLaws.{nothing_last}
use Rattle.al_base.proofs.NamePlaces.{first_more, first_within}
use Rattle.al_expr_types.specs.Joining.{join_in}
use Rattle.al_expr_types.specs.Merging.{and_named, is_placed, slot, slot_in}
use Rattle.al_expr_types.specs.Names.{names_in}
use Rattle.al_expr_types.specs.Types.{object_parts}
use Rattle.al_expr_types.specs.declared.joining.Join.{Join}
use Rattle.al_expr_types.specs.declared.merging.FieldJoins.{FieldJoins}
use Rattle.al_expr_types.specs.declared.objects.Object.{Object}
use Rattle.al_expr_types.specs.declared.joining.Join.TheVariants as joined

-- equal names have the same position
pub place_same : (ns : List (List ℕ)) (name n : List ℕ) → same_name name n ≡ true → name_place ns n ≡ name_place ns name
place_same ns name n e =
    ap (λ (f : List ℕ). first_at (λ m. bytes_eq (lower_case m) f) ns) (sym ((bytes_decides (lower_case name) (lower_case n)).0 e))

module _ {A : Type 0} (test : A → Bool) where
  passes_step : (b : Bool) (o : Option ℕ) (x d : A) (xs : List A) (i : ℕ) → test x ≡ b → ((j : ℕ) → o ≡ Some j → test (get_or xs j d) ≡ true) →
      (if b then Some 0 else option_map (λ k. k + 1) o) ≡ Some i → test (get_or (x ∷ xs) i d) ≡ true
  passes_step true o x d xs i is h e = let z : 0 ≡ i = cc in ap (λ k. test (get_or (x ∷ xs) k d)) (sym z) ∙ is
  passes_step false None x d xs i is h e = absurd cc
  passes_step false (Some j) x d xs i is h e =
      let y : j + 1 ≡ i = cc in
      let z : suc j ≡ i = omega (arith, y) in
      ap (λ k. test (get_or (x ∷ xs) k d)) (sym z) ∙ h j refl

  -- the element at the first position found passes the test
  pub first_passes : (xs : List A) (i : ℕ) (d : A) → first_at test xs ≡ Some i → test (get_or xs i d) ≡ true
  first_passes [] i d e = absurd cc
  first_passes (x ∷ xs) i d e = passes_step (test x) (first_at test xs) x d xs i refl (λ j h. first_passes xs j d h) e

-- different names have different positions
other_place : (ns : List (List ℕ)) (name n : List ℕ) (i j : ℕ) → name_place ns name ≡ Some i → name_place ns n ≡ Some j → same_name name n ≡ false → j ≢ i
other_place ns name n i j at there differ same =
    let x = get_or ns i [] in
    let a : bytes_eq (lower_case x) (lower_case name) ≡ true = first_passes (λ m. same_name m name) ns i [] at in
    let b : bytes_eq (lower_case x) (lower_case n) ≡ true = first_passes (λ m. same_name m n) ns i [] (there ∙ ap Some same) in
    let c : lower_case name ≡ lower_case n = sym ((bytes_decides (lower_case x) (lower_case name)).0 a) ∙ (bytes_decides (lower_case x) (lower_case n)).0 b in
    let yes : same_name name n ≡ true = (bytes_decides (lower_case name) (lower_case n)).1 c in
    let both : true ≡ false = sym yes ∙ differ in
    cc

slot_other : (js : List Join) (i : ℕ) (x : Join) (o : Option ℕ) → ((j : ℕ) → o ≡ Some j → j ≢ i) → slot (set js i x) o ≡ slot js o
slot_other js i x None h = refl
slot_other js i x (Some j) h = get_or-set_other js i j x joined.Nothing (h j refl)

joined_step : (ms : List Parts) (ns : List (List ℕ)) (js : List Join) (name n : List ℕ) (i : ℕ) (x : Join) (t : Optional) (b : Bool) → same_name name n ≡ b →
    name_place ns name ≡ Some i → i < length js → join_in ms x ≡ fuse_optional (join_in ms (get_or js i joined.Nothing)) t →
    slot_in ms (set js i x) (name_place ns n) ≡ (if b then fuse_optional (slot_in ms js (name_place ns n)) t else slot_in ms js (name_place ns n))
joined_step ms ns js name n i x t true is at lt e =
    let p = place_same ns name n is ∙ at in
    ap (slot_in ms (set js i x)) p ∙ ap (join_in ms) (get_or-set_same js i x joined.Nothing lt) ∙ e ∙ sym (ap (λ o. fuse_optional (slot_in ms js o) t) p)
joined_step ms ns js name n i x t false is at lt e =
    ap (join_in ms) (slot_other js i x (name_place ns n) (λ j there. other_place ns name n i j at there is))

-- setting the join at the position of the name
pub joined_at : (ms : List Parts) (ns : List (List ℕ)) (js : List Join) (name : List ℕ) (i : ℕ) (x : Join) (t : Optional) →
    name_place ns name ≡ Some i → i < length js → join_in ms x ≡ fuse_optional (join_in ms (get_or js i joined.Nothing)) t → (n : List ℕ) →
    slot_in ms (set js i x) (name_place ns n)
    ≡ (if same_name name n then fuse_optional (slot_in ms js (name_place ns n)) t else slot_in ms js (name_place ns n))
joined_at ms ns js name i x t at lt e n = joined_step ms ns js name n i x t (same_name name n) refl at lt e

slot_more : (js : List Join) (x : Join) (o : Option ℕ) → ((j : ℕ) → o ≡ Some j → j < length js) → slot (js ++ x ∷ []) o ≡ slot js o
slot_more js x None h = refl
slot_more js x (Some j) h = get_or_append_left js (x ∷ []) joined.Nothing j (h j refl)

or_none : (o : Option ℕ) → option_or o None ≡ o
or_none None = refl
or_none (Some i) = refl

pushed_step : (ms : List Parts) (ns : List (List ℕ)) (js : List Join) (name n : List ℕ) (x : Join) (b : Bool) → same_name name n ≡ b →
    name_place ns name ≡ None → length ns ≡ length js →
    slot_in ms (js ++ x ∷ []) (option_or (name_place ns n) (if b then Some (length ns) else None))
    ≡ (if b then fuse_optional (slot_in ms js (name_place ns n)) (join_in ms x) else slot_in ms js (name_place ns n))
pushed_step ms ns js name n x true is at len =
    let p = place_same ns name n is ∙ at in
    ap (λ o. slot_in ms (js ++ x ∷ []) (option_or o (Some (length ns)))) p ∙ ap (join_in ms) (get_or_at js x [] joined.Nothing (length ns) (sym len))
    ∙ sym (ap (λ o. fuse_optional (slot_in ms js o) (join_in ms x)) p)
pushed_step ms ns js name n x false is at len =
    ap (slot_in ms (js ++ x ∷ [])) (or_none (name_place ns n))
    ∙ ap (join_in ms) (slot_more js x (name_place ns n) (λ j there. let lt = first_within (λ m. same_name m n) ns j there in omega (arith, lt, len)))

-- appending the join of a new name
pub pushed_after : (ms : List Parts) (ns : List (List ℕ)) (js : List Join) (name : List ℕ) (x : Join) → name_place ns name ≡ None → length ns ≡ length js →
    (n : List ℕ) →
    slot_in ms (js ++ x ∷ []) (name_place (ns ++ name ∷ []) n)
    ≡ (if same_name name n then fuse_optional (slot_in ms js (name_place ns n)) (join_in ms x) else slot_in ms js (name_place ns n))
pushed_after ms ns js name x at len n =
    ap (slot_in ms (js ++ x ∷ [])) (first_more (λ m. same_name m n) ns name) ∙ pushed_step ms ns js name n x (same_name name n) refl at len

-- ---- bounds of positions, and setting an element

pub joined_within : (m : FieldJoins) (name : List ℕ) (i : ℕ) → name_place (names_in m.names) name ≡ Some i → i < length m.joins.items
joined_within m name i at = let lt = first_within (λ n. same_name n name) (names_in m.names) i at in omega (arith, lt, m.even)

pub all_set : {X : Type 0} (test : X → Bool) (xs : List X) (i : ℕ) (x : X) → list_all test xs ≡ true → test x ≡ true → list_all test (set xs i x) ≡ true
all_set test xs i x h k = list_all-from_AllPass test (set xs i x) (All-set (λ y. test y ≡ true) xs i x k (AllPass-from_list_all test xs h))

-- the fields of one more object, which the code read as `x`
pub of_object : (ms : List Parts) (start new : List ℕ → Optional) (p : Parts) (o x : Object) → p ≡ object_parts ms o → o ≡ x →
    new ≡ (λ n. fuse_optional (start n) ((object_parts ms x).0 n)) → new ≡ (λ n. fuse_optional (start n) (p.0 n))
of_object ms start new p o x is made e = e ∙ ap (λ q n. fuse_optional (start n) (q.0 n)) (sym (is ∙ ap (object_parts ms) made))

-- ---- fields by their positions

pub as_placed : (o : Option ℕ) (i : ℕ) → option_eq nat_eq o (Some i) ≡ is_placed o i
as_placed None i = refl
as_placed (Some k) i = refl

pub placed_yes : (o : Option ℕ) (i : ℕ) → o ≡ Some i → is_placed o i ≡ true
placed_yes o i e = let same : nat_eq i i ≡ true = grind (arith, nat_tests) in ap (λ p. is_placed p i) e ∙ same

placed_is : (o : Option ℕ) (i : ℕ) → is_placed o i ≡ true → o ≡ Some i
placed_is None i h = absurd cc
placed_is (Some k) i h = let same : k ≡ i = grind (arith, nat_tests) in ap Some same

-- The position of `n` is `i` if and only if `i` is the first position of the name there and that name equals `n`.
placed_both : (ns : List (List ℕ)) (x n : List ℕ) (i : ℕ) → x ≡ get_or ns i x → is_placed (name_place ns n) i ≡ (is_placed (name_place ns x) i && same_name x n)
placed_both ns x n i e =
    let there : name_place ns n ≡ Some i → (is_placed (name_place ns x) i && same_name x n) ≡ true = λ at.
    let same : same_name x n ≡ true = ap (λ y. same_name y n) e ∙ first_passes (λ m. same_name m n) ns i x at in
    (λ d. placed_yes (name_place ns x) i (sym (place_same ns x n same) ∙ at) d && same d) in
    same_from_decides (is_placed (name_place ns n) i) (is_placed (name_place ns x) i && same_name x n) (placed_is (name_place ns n) i, placed_yes (name_place ns n) i)
    (λ h. let both = and_parts (is_placed (name_place ns x) i) (same_name x n) h in place_same ns x n both.1 ∙ placed_is (name_place ns x) i both.0, there)

within : (us : List Type') (n k : ℕ) (d : Type') → k < n → n ≤ length us → slice_get (take n us) k ≡ Some (get_or us k d)
within us n k d lt le = slice_get-get_or (take n us) k d (omega (arith, length-take n us, lt, le)) ∙ ap Some (get_or-take n us k d lt)

-- the type at a position, among the first `i` types and among the first `i + 1`
at_next : (us : List Type') (o : Option ℕ) (i : ℕ) (t d : Type') (start so_far new : Optional) (b : Bool) → b ≡ is_placed o i → i < length us → t ≡ get_or us i d →
    so_far ≡ fuse_optional start (optional (option_and_then (λ k. slice_get (take i us) k) o)) → new ≡ (if b then fuse_optional so_far (Present t) else so_far) →
    new ≡ fuse_optional start (optional (option_and_then (λ k. slice_get (take (i + 1) us) k) o))
at_next us None i t d start so_far new true is lt e old step = absurd cc
at_next us None i t d start so_far new false is lt e old step = step ∙ old
at_next us (Some k) i t d start so_far new true is lt e old step =
    let same : k ≡ i = grind (arith, nat_tests) in
    let before = slice_get_past (take i us) k (omega (arith, length-take i us, same)) in
    let after = within us (i + 1) k d (omega (arith, same)) (omega (arith, lt)) ∙ ap (λ j. Some (get_or us j d)) same ∙ ap Some (sym e) in
    step ∙ ap (λ o. fuse_optional o (Present t)) (old ∙ ap (λ o. fuse_optional start (optional o)) before ∙ nothing_last start)
    ∙ ap (λ o. fuse_optional start (optional o)) (sym after)
at_next us (Some k) i t d start so_far new false is lt e old step =
    let apart : (k < i) ⊎ (i < k) = grind (arith, nat_tests) in
    let same : slice_get (take i us) k ≡ slice_get (take (i + 1) us) k =
    ⊎_elim (λ less. within us i k d less (omega (arith, lt)) ∙ sym (within us (i + 1) k d (omega (arith, less)) (omega (arith, lt))))
    (λ more. slice_get_past (take i us) k (omega (arith, length-take i us, more)) ∙ sym (slice_get_past (take (i + 1) us) k (omega (arith, length-take (i + 1) us, more)))) apart in
    step ∙ old ∙ ap (λ o. fuse_optional start (optional o)) same

named_if : (first : Bool) (at : List ℕ → Optional) (x n : List ℕ) (t : Optional) →
    (if first then and_named at x t else at) n ≡ (if first && same_name x n then fuse_optional (at n) t else at n)
named_if true at x n t = refl
named_if false at x n t = refl

abbrev no_types : List Type'
no_types = []

-- no fields
pub merged_none : (ns : List (List ℕ)) (n : List ℕ) (start : Optional) → start ≡ fuse_optional start (optional (field_at n (zip ns no_types)))
merged_none [] n start = sym (nothing_last start)
merged_none (m ∷ ns) n start = sym (nothing_last start)

-- one more field, which counts if it is the first with its name
pub merged_next : (ns : List (List ℕ)) (us : List Type') (i : ℕ) (x : List ℕ) (t d : Type') (first : Bool) (start so_far new : List ℕ → Optional) → i < length us →
    x ≡ get_or ns i x → t ≡ get_or us i d → first ≡ is_placed (name_place ns x) i →
    ((n : List ℕ) → so_far n ≡ fuse_optional (start n) (optional (field_at n (zip ns (take i us))))) → new ≡ (if first then and_named so_far x (Present t) else so_far) →
    (n : List ℕ) → new n ≡ fuse_optional (start n) (optional (field_at n (zip ns (take (i + 1) us))))
merged_next ns us i x t d first start so_far new lt name ty is old step n =
    let found : (k : ℕ) → optional (field_at n (zip ns (take k us))) ≡ optional (option_and_then (λ j. slice_get (take k us) j) (name_place ns n)) =
    λ k. ap optional (found_by_name ns (take k us) n) in
    at_next us (name_place ns n) i t d (start n) (so_far n) (new n) (first && same_name x n) (ap (λ b. b && same_name x n) is ∙ sym (placed_both ns x n i name)) lt ty
    (old n ∙ ap (fuse_optional (start n)) (found i)) (ap (λ f. f n) step ∙ named_if first so_far x n (Present t))
    ∙ ap (fuse_optional (start n)) (sym (found (i + 1)))

-- string fields as names with types
pub strings_zip : (ns : List (List ℕ)) → strings ns ≡ zip ns (map (λ n. String) ns)
strings_zip [] = refl
strings_zip (n ∷ ns) = ap (λ fs. (n, String) ∷ fs) (strings_zip ns)
