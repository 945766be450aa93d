-- The keys of a mapping's first entries, and the first occurrences of keys and names.
use Rattle.std.proofs.Common.{◌≡◌, Bor, ◌≤◌, ◌<◌, ℕ, ◌+◌, zero, suc, Bool, true, false, List, [], ◌∷◌, length, map, take, get_or, refl, sym, ap, arith, add-one, ◌∙◌, ◌||◌}
use Rattle.std.specs.Prelude.{Option, Some, None, is_none, nat_eq, not, option_map, if◌then◌else◌}
use Rattle.std.specs.List.{list_any}
use Rattle.std.specs.Option.{option_eq, option_map_or}
use Rattle.std.specs.Str.{bytes_eq}
use Rattle.std.specs.Cmp.{nat_eq_equiv, partial_equiv_from_equiv, IsPartialEquivalence}
use Rattle.std.specs.Cmp.Lexicographic.{lists_per}
use Rattle.std.proofs.Math.Dec.{eqb-suc-suc, eqb-zero-suc}
use Rattle.std.proofs.lemmas.Bool.{le-ltb, lt-ltb, ltb-true, ltb_from_iff}
use Rattle.std.proofs.lemmas.List.{length-map, take-map, take_all}
use Rattle.std.proofs.lemmas.Slice.Eq.{bytes_eq-Decides}
use Rattle.al_base.specs.Names.{among, lower_case, same_name}
use Rattle.al_base.specs.NamePlaces.{TellsFirsts, first_at, is_first_text, name_place, text_place, text_position}
use Rattle.al_base.specs.declared.name_positions.TextPositions.{TextPositions}
use Rattle.al_yaml_tree.specs.View.{entry_view}
use Rattle.al_yaml_tree.specs.declared.node.Entry.{Entry}
use Rattle.std.proofs.Math.Bool.{not-not}
use Rattle.al_tree.specs.Keys.{IsIndexOf, has_first, holds, is_before, key_of, keys_in, repeats}
use Rattle.al_tree.specs.declared.keys.KeyIndex.{KeyIndex}
use Rattle.al_tree.specs.declared.keys.KeySet.{KeySet}

bytes_swap : (a b : List ℕ) → bytes_eq a b ≡ bytes_eq b a
bytes_swap a b = let p : IsPartialEquivalence bytes_eq = lists_per (partial_equiv_from_equiv nat_eq_equiv) in p.symm a b

before_none : (place : Option ℕ) → is_before 0 place ≡ false
before_none None = refl
before_none (Some i) = le-ltb i 0 (omega arith)

before_more : (n : ℕ) (place : Option ℕ) → is_before (suc n) (option_map (λ i. i + 1) place) ≡ is_before n place
before_more n None = refl
before_more n (Some i) =
    ltb_from_iff ((λ e. let h = ltb-true (i + 1) (suc n) e in omega (arith, h)), (λ h. lt-ltb (i + 1) (suc n) (omega (arith, h))))

here_or_after : (here : Bool) (n : ℕ) (place : Option ℕ) (after : Bool) → is_before n place ≡ after →
    is_before (suc n) (if here then Some 0 else option_map (λ i. i + 1) place) ≡ (here || after)
here_or_after true n place after e = lt-ltb 0 (suc n) (omega arith)
here_or_after false n place after e = before_more n place ∙ e

-- A text is among the first n exactly if its first occurrence is before n.
pub placed_before : (ts : List (List ℕ)) (n : ℕ) (t : List ℕ) → is_before n (text_place ts t) ≡ among (take n ts) t
placed_before ts zero t = before_none (text_place ts t)
placed_before [] (suc n) t = refl
placed_before (u ∷ us) (suc n) t =
    here_or_after (bytes_eq u t) n (text_place us t) (among (take n us) t) (placed_before us n t)
    ∙ ap (λ b. b || among (take n us) t) (bytes_swap u t)

-- ---- the first occurrence of a name in a list

same_more : (k i : ℕ) → nat_eq (k + 1) (suc i) ≡ nat_eq k i
same_more k i = ap (λ j. nat_eq j (suc i)) (add-one k) ∙ eqb-suc-suc k i

module _ {A : Type 0} (test : A → Bool) where
  first_here : (here : Bool) (after : Option ℕ) → here ≡ true → option_eq nat_eq (if here then Some 0 else after) (Some 0) ≡ true
  first_here true after e = refl
  first_here false after e = absurd cc

  first_after : (here : Bool) (after before : Option ℕ) (i : ℕ) → option_eq nat_eq after (Some i) ≡ is_none before →
      option_eq nat_eq (if here then Some 0 else option_map (λ k. k + 1) after) (Some (suc i))
      ≡ is_none (if here then Some 0 else option_map (λ k. k + 1) before)
  first_after true after before i e = eqb-zero-suc i
  first_after false None None i e = e
  first_after false None (Some j) i e = refl
  first_after false (Some k) None i e = same_more k i ∙ e
  first_after false (Some k) (Some j) i e = same_more k i ∙ e

  -- An element that passes the test is the first one exactly if none before it passes.
  pub stands_first : (xs : List A) (i : ℕ) (d : A) → i < length xs → test (get_or xs i d) ≡ true →
      option_eq nat_eq (first_at test xs) (Some i) ≡ is_none (first_at test (take i xs))
  stands_first [] i d within passes = absurd (omega (arith, within))
  stands_first (y ∷ ys) zero d within passes = first_here (test y) (option_map (λ k. k + 1) (first_at test ys)) passes
  stands_first (y ∷ ys) (suc i) d within passes =
      first_after (test y) (first_at test ys) (first_at test (take i ys)) i (stands_first ys i d (omega (arith, within)) passes)

  -- There is no first element exactly if none passes.
  none_step : (here : Bool) (after : Option ℕ) (more : Bool) → is_none after ≡ not more →
      is_none (if here then Some 0 else option_map (λ k. k + 1) after) ≡ not (here || more)
  none_step true after more e = refl
  none_step false None more e = e
  none_step false (Some k) more e = e

  pub none_at : (xs : List A) → is_none (first_at test xs) ≡ not (list_any test xs)
  none_at [] = refl
  none_at (x ∷ xs) = none_step (test x) (first_at test xs) (list_any test xs) (none_at xs)

-- The text at i isn't the first of its text exactly if its first occurrence is before i.
repeats_before : (ts : List (List ℕ)) (i : ℕ) (t : List ℕ) → i < length ts → get_or ts i [] ≡ t → not (option_eq nat_eq (text_place ts t) (Some i)) ≡ is_before i (text_place ts t)
repeats_before ts i t within is =
    let test : List ℕ → Bool = λ u. bytes_eq u t in
    ap not (stands_first test ts i [] within (ap test is ∙ (bytes_eq-Decides t t).1 refl) ∙ none_at test (take i ts))
    ∙ not-not (list_any test (take i ts)) ∙ ap (λ f. list_any f (take i ts)) (λ d u. bytes_swap u t d) ∙ sym (placed_before ts i t)

same_itself : (n : List ℕ) → same_name n n ≡ true
same_itself n = (bytes_eq-Decides (lower_case n) (lower_case n)).1 refl

-- A name is the first one exactly if no earlier name is the same.
pub told_first : {X Y : Type 0} (g : Y → List ℕ) (f : X → Y) (xs : List X) (i : ℕ) (n : List ℕ) (first : ℕ → Bool) →
    TellsFirsts (name_place (map g (map f xs))) (map g (map f xs)) first → i < length xs → get_or (map g (map f xs)) i [] ≡ n →
    first i ≡ is_none (name_place (map g (map f (take i xs))) n)
told_first g f xs i n first told within is =
    let ns = map g (map f xs) in
    let inside : i < length ns = omega (arith, within, length-map xs f, length-map (map f xs) g) in
    told i inside ∙ ap (λ m. option_eq nat_eq (name_place ns m) (Some i)) is
    ∙ stands_first (λ m. same_name m n) ns i [] inside (ap (λ m. same_name m n) is ∙ same_itself n)
    ∙ ap (λ ms. is_none (name_place ms n)) (take-map g i (map f xs) ∙ ap (map g) (take-map f i xs))

-- ---- the keys of a mapping

-- an index without positions, for few keys, and one with positions
pub few_keys : (es : Bor (List Entry)) → IsIndexOf (record { entries = es; positions = None }) es.now
unfolding has_first repeats
few_keys es = (refl, refl, λ i l. refl)

pub many_keys : (es : Bor (List Entry)) (p : TextPositions) → text_position p ≡ text_place (keys_in (map entry_view es.now)) →
    TellsFirsts (text_place (keys_in (map entry_view es.now))) (keys_in (map entry_view es.now)) (is_first_text p) →
    IsIndexOf (record { entries = es; positions = Some p }) es.now
unfolding has_first repeats
many_keys es p is first =
    let ks : List (List ℕ) = keys_in (map entry_view es.now) in (
      refl,
      (λ i n k.
          (ap (λ f. is_before n (f k)) is
          ∙ placed_before ks n k
          ∙ ap (λ l. among l k) (take-map key_of n (map entry_view es.now) ∙ ap keys_in (take-map entry_view n es.now))) i),
      λ i within.
          (let k : List ℕ = get_or ks i [] in
          let inside : i < length ks = omega (arith, within, length-map es.now entry_view, length-map (map entry_view es.now) key_of) in
          ap not (first i inside) ∙ repeats_before ks i k inside refl ∙ sym (ap (λ f. is_before i (f k)) is)),
    )

-- the keys that a set without positions holds
pub few_hold : (s : KeySet) (k : List ℕ) → s.index.now.positions ≡ None →
    among (keys_in (map entry_view (take s.count s.index.now.entries.now))) k ≡ holds s k
unfolding has_first
few_hold s k few =
    sym (ap (λ o. option_map_or (λ p. is_before s.count (text_position p k)) o (among (keys_in (map entry_view (take s.count s.index.now.entries.now))) k)) few)

-- a set of all keys of a mapping
pub all_keys : (x : KeyIndex) (s : KeySet) (es : List Entry) (n : ℕ) → IsIndexOf x es → holds s ≡ has_first x n → length es ≤ n →
    holds s ≡ among (keys_in (map entry_view es))
all_keys x s es n index first all =
    first ∙ ap (λ f. f n) index.1 ∙ ap (λ l. among (keys_in (map entry_view l))) (take_all n es all)
