-- The row with the longest path is the first one whose path has that length, among those whose paths begin the keys.
use Rattle.std.proofs.Common.{◌≡◌, ◌<◌, ◌≤◌, ◌+◌, ◌∙◌, ℕ, zero, suc, take, List, [], ◌∷◌, length, map, min, ap, refl, sym, arith, Bor, Bool, true, false, ◌&&◌, ◌||◌, ◌==◌}
use Rattle.std.specs.Prelude.{Option, Some, None, is_some, option_map, nat_lt, not, filter, find, if◌then◌else◌}
use Rattle.std.specs.List.{fold, list_any}
use Rattle.std.specs.Option.{option_map_or}
use Rattle.std.proofs.lemmas.Bool.{or_parts}
use Rattle.std.proofs.lemmas.List.{length-map, length-take, take-map}
use Rattle.std.specs.Str.{bytes_eq}
use Rattle.std.proofs.lemmas.Bool.Decides.{nat_tests}
use Rattle.al_check_places.specs.Availability.{AvailabilityRow, availability, longer, row_view, table}
use Rattle.al_check_places.specs.declared.table.AvailabilityRow as rust
use Rattle.al_check_places.specs.Paths.{Path, is_path_prefix}
use Rattle.al_check_places.proofs.Prefixes.{too_long}

module _ (begins : AvailabilityRow → Bool) where
  -- whether a row's path begins the keys and has at least n keys, or just n
  abbrev pub reaches : ℕ → AvailabilityRow → Bool
  reaches n r = begins r && not (nat_lt (length r.path) n)

  abbrev pub has : ℕ → AvailabilityRow → Bool
  has n r = (length r.path == n) && begins r

  abbrev best : Option AvailabilityRow → List AvailabilityRow → Option AvailabilityRow
  best q rs = fold longer q (filter begins rs)

  abbrev shorter : ℕ → Option AvailabilityRow → Bool
  shorter n q = option_map_or (λ r. nat_lt (length r.path) n) q true

  -- a row stays the best of those that aren't longer
  stays_here : (here : Bool) (q r : AvailabilityRow) (rs : List AvailabilityRow) → (here && not (nat_lt (length r.path) (length q.path + 1))) ≡ false → best (Some q) rs ≡ Some q →
      fold longer (Some q) (if here then r ∷ filter begins rs else filter begins rs) ≡ Some q
  stays_here true q r rs h k = let less : nat_lt (length q.path) (length r.path) ≡ false = grind (arith, nat_tests, h) in ap (λ b. best (if b then Some r else Some q) rs) less ∙ k
  stays_here false q r rs h k = k

  stays : (q : AvailabilityRow) (rs : List AvailabilityRow) → list_any (reaches (length q.path + 1)) rs ≡ false → best (Some q) rs ≡ Some q
  stays q [] h = refl
  stays q (r ∷ rs) h =
      let parts = or_parts (reaches (length q.path + 1) r) (list_any (reaches (length q.path + 1)) rs) h in
      stays_here (begins r) q r rs parts.0 (stays q rs parts.1)

  -- the longer of a row and of one with fewer than n keys, if the row has n or fewer
  takes : (n : ℕ) (q : Option AvailabilityRow) (r : AvailabilityRow) → shorter n q ≡ true → length r.path ≡ n → longer q r ≡ Some r
  takes n None r h e = refl
  takes n (Some q) r h e = rw (e, h) refl

  both_shorter : (n : ℕ) (q : Option AvailabilityRow) (r : AvailabilityRow) → shorter n q ≡ true → nat_lt (length r.path) n ≡ true → shorter n (longer q r) ≡ true
  both_shorter n None r h less = less
  both_shorter n (Some q) r h less = one_of (nat_lt (length q.path) (length r.path)) q r h less
    where
      one_of : (b : Bool) (q r : AvailabilityRow) → nat_lt (length q.path) n ≡ true → nat_lt (length r.path) n ≡ true → shorter n (if b then Some r else Some q) ≡ true
      one_of true q r h less = less
      one_of false q r h less = h

  -- the first row with n keys is the best, if none has more
  found_here : (here is : Bool) (n : ℕ) (q : Option AvailabilityRow) (r x : AvailabilityRow) (rs : List AvailabilityRow) → is ≡ (length r.path == n) → shorter n q ≡ true →
      (here && not (nat_lt (length r.path) (n + 1))) ≡ false → (length r.path ≡ n → best (Some r) rs ≡ Some r) →
      ((p : Option AvailabilityRow) → shorter n p ≡ true → find (has n) rs ≡ Some x → best p rs ≡ Some x) →
      (if is && here then Some r else find (has n) rs) ≡ Some x → fold longer q (if here then r ∷ filter begins rs else filter begins rs) ≡ Some x
  found_here true true n q r x rs e s h kept more f =
      let same : length r.path ≡ n = grind (arith, nat_tests, e) in ap (λ p. best p rs) (takes n q r s same) ∙ kept same ∙ f
  found_here true false n q r x rs e s h kept more f =
      let less : nat_lt (length r.path) n ≡ true = grind (arith, nat_tests, e, h) in more (longer q r) (both_shorter n q r s less) f
  found_here false true n q r x rs e s h kept more f = more q s f
  found_here false false n q r x rs e s h kept more f = more q s f

  pub found : (n : ℕ) (q : Option AvailabilityRow) (rs : List AvailabilityRow) (x : AvailabilityRow) → shorter n q ≡ true → list_any (reaches (n + 1)) rs ≡ false → find (has n) rs ≡ Some x →
      best q rs ≡ Some x
  found n q [] x s h f = absurd cc
  found n q (r ∷ rs) x s h f =
      let parts = or_parts (reaches (n + 1) r) (list_any (reaches (n + 1)) rs) h in
      found_here (begins r) (length r.path == n) n q r x rs refl s parts.0 (λ e. stays r rs (rw e parts.1)) (λ p t g. found n p rs x t parts.1 g) f

  -- if no row has n keys either, all have fewer
  fewer_here : (here is rest : Bool) (n : ℕ) (r : AvailabilityRow) (after : Option AvailabilityRow) → is ≡ (length r.path == n) → (here && not (nat_lt (length r.path) (n + 1))) ≡ false →
      (after ≡ None → rest ≡ false) → (if is && here then Some r else after) ≡ None → ((here && not (nat_lt (length r.path) n)) || rest) ≡ false
  fewer_here true true rest n r after e h more f = absurd cc
  fewer_here true false rest n r after e h more f =
      let less : nat_lt (length r.path) n ≡ true = grind (arith, nat_tests, e, h) in rw less (more f)
  fewer_here false true rest n r after e h more f = more f
  fewer_here false false rest n r after e h more f = more f

  pub fewer : (n : ℕ) (rs : List AvailabilityRow) → list_any (reaches (n + 1)) rs ≡ false → find (has n) rs ≡ None → list_any (reaches n) rs ≡ false
  fewer n [] h f = refl
  fewer n (r ∷ rs) h f =
      let parts = or_parts (reaches (n + 1) r) (list_any (reaches (n + 1)) rs) h in
      fewer_here (begins r) (length r.path == n) _ n r _ refl parts.0 (fewer n rs parts.1) f

  -- if all have fewer than none, there is no row
  none_here : (here : Bool) (q : Option AvailabilityRow) (r : AvailabilityRow) (rs : List AvailabilityRow) → (here && not (nat_lt (length r.path) 0)) ≡ false → best q rs ≡ q →
      fold longer q (if here then r ∷ filter begins rs else filter begins rs) ≡ q
  none_here true q r rs h k = absurd (grind (arith, nat_tests, h))
  none_here false q r rs h k = k

  pub none : (q : Option AvailabilityRow) (rs : List AvailabilityRow) → list_any (reaches 0) rs ≡ false → best q rs ≡ q
  none q [] h = refl
  none q (r ∷ rs) h =
      let parts = or_parts (reaches 0 r) (list_any (reaches 0) rs) h in none_here (begins r) q r rs parts.0 (none q rs parts.1)

abbrev pub begins : List (List ℕ) → AvailabilityRow → Bool
begins ks r = is_path_prefix r.path ks

-- no path has more keys than there are, or more than six
at_most : (ks : List (List ℕ)) (rs : List AvailabilityRow) → list_any (λ r. nat_lt 6 (length r.path)) rs ≡ false → list_any (reaches (begins ks) (min (length ks) 6 + 1)) rs ≡ false
at_most ks [] h = refl
at_most ks (r ∷ rs) h =
    let parts = or_parts (nat_lt 6 (length r.path)) (list_any (λ r. nat_lt 6 (length r.path)) rs) h in
    let long : length ks < length r.path → is_path_prefix r.path ks ≡ false = too_long r.path ks in
    let here : reaches (begins ks) (min (length ks) 6 + 1) r ≡ false = grind (arith, nat_tests, long, parts.0) in
    rw here (at_most ks rs parts.1)

pub at_most_six : (ks : List (List ℕ)) (n : ℕ) → n ≡ min (length ks) 6 + 1 → list_any (reaches (begins ks) n) table ≡ false
at_most_six ks n e = rw e (at_most ks table refl)

-- the first keys are a path exactly if it has so many keys and begins them all
first_keys : (ps : Path) (ks : List (List ℕ)) (n : ℕ) → length ps ≡ n → is_path_prefix ps (take n ks) ≡ is_path_prefix ps ks
first_keys [] ks n e = refl
first_keys (p ∷ ps) [] zero e = refl
first_keys (p ∷ ps) [] (suc n) e = refl
first_keys (p ∷ ps) (k ∷ ks) zero e = absurd (omega (arith, e))
first_keys (p ∷ ps) (k ∷ ks) (suc n) e = ap (λ b. option_map_or (λ name. bytes_eq name k) p true && b) (first_keys ps ks n (omega (arith, e)))

same_here : (is : Bool) (ps : Path) (ks : List (List ℕ)) (n : ℕ) → is ≡ (length ps == n) → (is && is_path_prefix ps (take n ks)) ≡ (is && is_path_prefix ps ks)
same_here true ps ks n e = let same : length ps ≡ n = grind (arith, nat_tests, e) in first_keys ps ks n same
same_here false ps ks n e = refl

pub along : (ks : List (List ℕ)) (n : ℕ) → n ≤ length ks →
    find (λ r. (length r.path == length (take n ks)) && is_path_prefix r.path (take n ks)) table ≡ find (has (begins ks) n) table
along ks n h =
    let len : length (take n ks) ≡ n = omega (arith, length-take n ks, h) in
    rw len (ap (λ f. find f table) (λ d r. same_here (length r.path == n) r.path ks n refl d))

-- what is found with n keys, if no path has more: the row, or that all have fewer
module _ (keys : List (Bor (List ℕ))) (n : ℕ) (inside : n ≤ length keys) where
  abbrev ks : List (List ℕ)
  ks = map (λ k. k.now) keys

  abbrev Is : Option (Bor rust.AvailabilityRow) → Type 0
  Is r = let some = map (λ k. k.now) (take n keys) in
      option_map (λ r. row_view r.now) r ≡ find (λ r. (length r.path == length some) && is_path_prefix r.path some) table

  found_along : (r : Option (Bor rust.AvailabilityRow)) → Is r → option_map (λ r. row_view r.now) r ≡ find (has (begins ks) n) table
  found_along r is =
      is ∙ ap (λ some. find (λ r. (length r.path == length some) && is_path_prefix r.path some) table) (sym (take-map (λ k. k.now) n keys))
      ∙ along ks n (omega (arith, inside, length-map keys (λ k. k.now)))

  pub longest : (r : Option (Bor rust.AvailabilityRow)) → list_any (reaches (begins ks) (n + 1)) table ≡ false → Is r → is_some r ≡ true →
      option_map (λ r. row_view r.now) r ≡ availability ks
  longest None h is some = absurd cc
  longest (Some x) h is some = sym (found (begins ks) n None table (row_view x.now) refl h (sym (found_along (Some x) is)))

  pub shorter_left : (r : Option (Bor rust.AvailabilityRow)) → list_any (reaches (begins ks) (n + 1)) table ≡ false → Is r → is_some r ≡ false →
      list_any (reaches (begins ks) n) table ≡ false
  shorter_left None h is some = fewer (begins ks) n table h (sym (found_along None is))
  shorter_left (Some x) h is some = absurd cc
