-- The index of callers, as a relation between texts.
use Rattle.std.proofs.lemmas.List.Folds.{list_any_more, list_any-append}
use Rattle.std.proofs.lemmas.Bool.{or_left}
use Rattle.std.proofs.lemmas.Bool.Decides.{nat_tests}
use Rattle.std.proofs.lemmas.Cmp.{nat_list_eq_equiv}
use Rattle.std.proofs.Common.{◌≡◌, ℕ, ◌+◌, ◌<◌, Bool, true, false, not, ◌&&◌, ◌||◌, cond, List, length, drop, take, get_or, Option, Some, None, sym, ◌∙◌, ap, arith, String}
use Rattle.std.specs.Prelude.{string_bytes, bytes_eq}
use Rattle.std.specs.Global.{Global}
use Rattle.std.specs.Option.{option_map_or}
use Rattle.std.specs.List.{list_any}
use Rattle.std.specs.HashSet as bag
use Rattle.std.specs.String.{string_eq}
use Rattle.std.proofs.lemmas.List.{take-append-drop}
use Rattle.std.proofs.lemmas.Map.Text.{hash_map_updates_text, hash_set_updates_text}
use Rattle.indexmap.specs.IndexMap.{get_by_text, UpdatesBy}
use Rattle.indexmap.specs.IndexSet.{IndexSet, contains_text}
use Rattle.al_session_folder.specs.Kept.{Callers, is_caller}
use Rattle.std.proofs.Common.{Result, Ok, Err, OnErr}
use Rattle.al_session_folder.proofs.Views.{bytes_same}

module _ {S R : Type 0} (old new : Callers S R) (p : List ℕ) where
  -- the callers of one path were set
  pub callers_set : (w : Option (IndexSet (String Global) S)) → UpdatesBy string_eq (λ k. bytes_eq p (string_bytes k)) old new w
      → (c q : List ℕ) → is_caller new c q ≡ cond (bytes_eq c p) (option_map_or (λ known. contains_text known q) w false) (is_caller old c q)
  callers_set w h c q =
      ap (λ (o : Option (IndexSet (String Global) S)). option_map_or (λ known. contains_text known q) o false) (hash_map_updates_text p old new w h c)
      ∙ at_path (bytes_eq p c) (bytes_eq c p) (nat_list_eq_equiv.symm p c)
    where
      at_path : (t s : Bool) → t ≡ s → option_map_or (λ known. contains_text known q) (cond t w (get_by_text old c)) false
          ≡ cond s (option_map_or (λ known. contains_text known q) w false) (is_caller old c q)
      at_path t s same = grind (arith, nat_tests)

-- the callers of one path were set, given those that were there before
module _ (old new : List ℕ → List ℕ → Bool) (p : List ℕ) (now there : List ℕ → Bool) (set : (c q : List ℕ) → new c q ≡ cond (bytes_eq c p) (now q) (old c q))
    (before : (c q : List ℕ) → bytes_eq c p ≡ true → there q ≡ old c q) where
  pub added_to : (x : List ℕ) → ((q : List ℕ) → now q ≡ bytes_eq q x || there q) → (c q : List ℕ) → new c q ≡ (bytes_eq c p && bytes_eq q x) || old c q
  added_to x is c q = let a = set c q in let b = before c q in let d = is q in grind (arith, nat_tests, a, b, d)

  pub dropped_from : (x : List ℕ) → ((q : List ℕ) → now q ≡ not (bytes_eq q x) && there q) → (c q : List ℕ) → new c q ≡ not (bytes_eq c p && bytes_eq q x) && old c q
  dropped_from x is c q = let a = set c q in let b = before c q in let d = is q in grind (arith, nat_tests, a, b, d)

  pub stays : ((q : List ℕ) → now q ≡ there q) → (c q : List ℕ) → new c q ≡ old c q
  stays is c q = let a = set c q in let b = before c q in let d = is q in grind (arith, nat_tests, a, b, d)

-- the callers that are known for a path
pub known_at : {S R : Type 0} (callers : Callers S R) (p : List ℕ) (known : IndexSet (String Global) S) → get_by_text callers p ≡ Some known
    → (c q : List ℕ) → bytes_eq c p ≡ true → contains_text known q ≡ is_caller callers c q
known_at callers p known h c q same = sym (ap (λ (o : Option (IndexSet (String Global) _)). option_map_or (λ k. contains_text k q) o false) (ap (get_by_text callers) (bytes_same c p same) ∙ h))

pub none_at : {S R : Type 0} (callers : Callers S R) (p : List ℕ) → get_by_text callers p ≡ None → (c q : List ℕ) → bytes_eq c p ≡ true → false ≡ is_caller callers c q
none_at callers p h c q same = sym (ap (λ (o : Option (IndexSet (String Global) _)). option_map_or (λ k. contains_text k q) o false) (ap (get_by_text callers) (bytes_same c p same) ∙ h))

-- a text was removed from a set
pub name_dropped : {S : Type 0} (old new : IndexSet (String Global) S) (p : List ℕ) → bag.UpdatesBy string_eq (λ k. bytes_eq p (string_bytes k)) old new false
    → (c : List ℕ) → contains_text new c ≡ not (bytes_eq c p) && contains_text old c
name_dropped old new p h c =
    let flipped : bytes_eq p c ≡ bytes_eq c p = nat_list_eq_equiv.symm p c in
    hash_set_updates_text p old new false h c ∙ rw flipped (grind (arith, nat_tests))

-- ---- the steps of the loops

module _ (T : String Global → Bool) where
  any_more : (xs : List (String Global)) (i : ℕ) (x : String Global) → i < length xs → x ≡ get_or xs i x → list_any T (take (i + 1) xs) ≡ list_any T (take i xs) || T x
  any_more xs i x within read = list_any_more T xs i x within ∙ ap (λ y. list_any T (take i xs) || T y) (sym read)

  pub any_take : (xs : List (String Global)) (i : ℕ) → list_any T (take i xs) ≡ true → list_any T xs ≡ true
  any_take xs i h =
      ap (list_any T) (sym (take-append-drop i xs)) ∙ list_any-append T (take i xs) (drop i xs) ∙ or_left (list_any T (take i xs)) (list_any T (drop i xs)) h

-- one more name is added, or removed
pub added_next : (T : String Global → Bool) (xs : List (String Global)) (i : ℕ) (x : String Global) (here old so_far new : Bool) → i < length xs → x ≡ get_or xs i x
    → so_far ≡ (here && list_any T (take i xs)) || old → new ≡ (T x && here) || so_far → new ≡ (here && list_any T (take (i + 1) xs)) || old
added_next T xs i x here old so_far new within read h e = let more = any_more T xs i x within read in grind (arith, nat_tests, more)

pub dropped_next : (T : String Global → Bool) (xs : List (String Global)) (i : ℕ) (x : String Global) (here keeps old so_far new : Bool) → i < length xs → x ≡ get_or xs i x
    → so_far ≡ not (here && (list_any T (take i xs) && keeps)) && old → new ≡ not (here && (T x && keeps)) && so_far → new ≡ not (here && (list_any T (take (i + 1) xs) && keeps)) && old
dropped_next T xs i x here keeps old so_far new within read h e = let more = any_more T xs i x within read in grind (arith, nat_tests, more)

-- a name that is among the others is kept, and one that isn't is removed
module _ (c n : List ℕ) (others : List ℕ → Bool) (here old new : Bool) where
  alike : bytes_eq c n ≡ true → others c ≡ others n
  alike h = ap others (bytes_same c n h)

  pub dropped_then : others n ≡ false → new ≡ not (bytes_eq c n && here) && old → new ≡ not (here && (bytes_eq c n && not (others c))) && old
  dropped_then lacks e = grind (arith, nat_tests, alike)

  pub dropped_else : others n ≡ true → new ≡ old → new ≡ not (here && (bytes_eq c n && not (others c))) && old
  dropped_else has e = grind (arith, nat_tests, alike)

-- what was added is removed again
pub undone : (here now before added old mid new : Bool) → (here ≡ true → old ≡ before) → (added ≡ true → now ≡ true) → mid ≡ (here && added)
    || old → new ≡ not (here && (now && not before)) && mid → new ≡ old
undone here now before added old mid new same sub first last = grind (arith, nat_tests)

pub err_always : {A E P : Type 0} (r : Result A E) → P → OnErr r P
err_always (Ok x) h = tt
err_always (Err e) h = h

-- a set that became empty is removed
pub gone_twice : (t new mid here old : Bool) → new ≡ cond t false mid → mid ≡ cond t here old → here ≡ false → new ≡ cond t here old
gone_twice t new mid here old set first none = grind (arith, nat_tests)

-- removing where nothing is changes nothing
pub not_there : (c p q x : List ℕ) (old : Bool) → (bytes_eq c p ≡ true → false ≡ old) → old ≡ not (bytes_eq c p && bytes_eq q x) && old
not_there c p q x old none = grind (arith, nat_tests)
