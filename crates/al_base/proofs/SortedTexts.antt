-- The first entry of a text: after an append, after a stable sort, and by binary search.
use Rattle.std.proofs.Common.{◌≡◌, ℕ, ◌+◌, ◌-◌, ◌<◌, ◌≤◌, Bool, true, false, not, ◌&&◌, List, [], ◌∷◌, ◌++◌, length, map, take, get_or, zero, suc, refl, sym, ap, ◌∙◌, Option, Some, None, option_map}
use Rattle.std.proofs.Common.{arith, ⊎_elim}
use Rattle.std.specs.Cmp.{IsStrictWeakOrder, IsTotalOrder, Equal-is, tied_itself, tied_then}
use Rattle.std.specs.Cmp.Lexicographic.{bytes_decides, nat_list_cmp_total, slice_cmp}
use Rattle.std.specs.List.{AllWithin, filter, find}
use Rattle.std.specs.List.Sorted.{IsNonDecreasingBy, IsPartitionPoint, IsPartitionedBy, IsStableBy, ties}
use Rattle.std.specs.Option.{option_or}
use Rattle.std.specs.Ordering.{is_eq, is_lt, nat_cmp, ordering_index, ordering_reverse}
use Rattle.std.specs.Prelude.{if◌then◌else◌}
use Rattle.std.specs.Str.{bytes_eq}
use Rattle.std.specs.declared.cmp.Ordering.{Ordering}
use Rattle.std.specs.declared.cmp.Ordering.TheVariants.{Less, Equal, Greater}
use Rattle.std.proofs.lemmas.Bool.{cases_lt}
use Rattle.std.proofs.lemmas.Bool.Decides.{nat_tests}
use Rattle.std.proofs.lemmas.Cmp.{is_eq_index, is_lt_index, nat_cmp_total, on_total, then_total}
use Rattle.std.proofs.lemmas.List.{get_or_default, length-map, length-take, map-append, take_more}
use Rattle.std.proofs.lemmas.List.Folds.{find-append}
use Rattle.std.proofs.lemmas.List.Sorted.{ranks_by, searchable_from_sorted}
use Rattle.std.proofs.lemmas.Map.Text.{is_eq-slice_cmp}
use Rattle.al_base.specs.Names.{lower_case}
use Rattle.al_base.specs.NamePlaces.{name_place, text_place}
use Rattle.al_base.specs.SortedTexts.{AreSorted, Key, entry_key, key_cmp, position_among, sort_key, tail_number}
use Rattle.al_base.specs.declared.sorted_texts.Entry.{Entry}
use Rattle.al_base.proofs.NamePlaces.{first_more}

pub key_cmp_total : IsTotalOrder key_cmp
key_cmp_total = then_total (on_total (λ (k : Key). k.0) nat_cmp_total) (on_total (λ (k : Key). k.1) nat_list_cmp_total)

and_right : (a b : Bool) → (b ≡ true → a ≡ true) → (a && b) ≡ b
and_right true b h = refl
and_right false true h = h refl
and_right false false h = refl

-- Keys are equal exactly if the texts are.
pub same_key : (u t : List ℕ) → is_eq (key_cmp (sort_key u) (sort_key t)) ≡ bytes_eq u t
same_key u t =
    let n : ℕ = tail_number u in
    sym (tied_then (nat_cmp n (tail_number t)) (slice_cmp nat_cmp u t))
    ∙ ap (λ b. is_eq (nat_cmp n (tail_number t)) && b) (is_eq-slice_cmp u t)
    ∙ and_right (is_eq (nat_cmp n (tail_number t))) (bytes_eq u t)
    (λ e. ap (λ v. is_eq (nat_cmp n (tail_number v))) (sym ((bytes_decides u t).0 e)) ∙ ap is_eq (tied_itself nat_cmp_total n))

-- ---- after one entry is appended

module _ {T : Type 0} (bytes : T → List ℕ) where
  or_mapped : (o p : Option (Entry T)) → option_map (λ e. e.position) (option_or o p) ≡ option_or (option_map (λ e. e.position) o) (option_map (λ e. e.position) p)
  or_mapped None p = refl
  or_mapped (Some e) p = refl

  one_alone : (a b : Bool) (e : Entry T) (i : ℕ) → a ≡ b → e.position ≡ i → option_map (λ (x : Entry T). x.position) (if a then Some e else None) ≡ (if b then Some i else None)
  one_alone true true e i h p = ap Some p
  one_alone true false e i h p = absurd cc
  one_alone false true e i h p = absurd cc
  one_alone false false e i h p = refl

  pub entry_more : (es : List (Entry T)) (e : Entry T) (u : List ℕ) (i : ℕ) → entry_key bytes e ≡ sort_key u → e.position ≡ i →
      position_among bytes (es ++ e ∷ []) ≡ (λ t. option_or (position_among bytes es t) (if bytes_eq u t then Some i else None))
  entry_more es e u i k p =
      λ d t.
      (ap (option_map (λ (x : Entry T). x.position)) (find-append (λ x. is_eq (key_cmp (entry_key bytes x) (sort_key t))) es (e ∷ []))
      ∙ or_mapped (find (λ x. is_eq (key_cmp (entry_key bytes x) (sort_key t))) es) (find (λ x. is_eq (key_cmp (entry_key bytes x) (sort_key t))) (e ∷ []))
      ∙ ap (option_or (position_among bytes es t))
      (one_alone (is_eq (key_cmp (entry_key bytes e) (sort_key t))) (bytes_eq u t) e i (ap (λ n. is_eq (key_cmp n (sort_key t))) k ∙ same_key u t) p)) d

-- ---- after a stable sort

module _ {X : Type 0} (test : X → Bool) where
  abbrev head : List X → Option X
  head [] = None
  head (x ∷ xs) = Some x

  head_step : (b : Bool) (x : X) (xs : List X) (o : Option X) → o ≡ head xs → (if b then Some x else o) ≡ head (if b then x ∷ xs else xs)
  head_step true x xs o e = refl
  head_step false x xs o e = e

  find_head : (xs : List X) → find test xs ≡ head (filter test xs)
  find_head [] = refl
  find_head (x ∷ xs) = head_step (test x) x (filter test xs) (find test xs) (find_head xs)

  passes_step : (b : Bool) (y x : X) (o : Option X) → (o ≡ Some x → test x ≡ true) → test y ≡ b → (if b then Some y else o) ≡ Some x → test x ≡ true
  passes_step true y x o f t e = let z : y ≡ x = cc in ap test (sym z) ∙ t
  passes_step false y x o f t e = f e

  find_passes : (xs : List X) (x : X) → find test xs ≡ Some x → test x ≡ true
  find_passes [] x e = absurd cc
  find_passes (y ∷ ys) x e = passes_step (test y) y x (find test ys) (λ h. find_passes ys x h) refl e

  same_if_some : (o p : Option X) → ((x : X) → o ≡ Some x → p ≡ o) → ((x : X) → p ≡ Some x → p ≡ o) → p ≡ o
  same_if_some (Some x) p f g = f x refl
  same_if_some None (Some y) f g = g y refl
  same_if_some None None f g = refl

  pub find_stable : (lt : X → X → Bool) (xs ys : List X) → ((x : X) → test x ≡ true → (y : X) → ties lt x y ≡ test y) → IsStableBy lt xs ys → find test ys ≡ find test xs
  find_stable lt xs ys tie stable =
      let kept : (x : X) → test x ≡ true → filter test ys ≡ filter test xs = λ x t.
      ap (λ (p : X → Bool). filter p ys) (λ d y. sym (tie x t y) d) ∙ stable x ∙ ap (λ (p : X → Bool). filter p xs) (λ d y. tie x t y d) in
      let same : (x : X) → test x ≡ true → find test ys ≡ find test xs = λ x t. find_head ys ∙ ap head (kept x t) ∙ sym (find_head xs) in
      same_if_some (find test xs) (find test ys) (λ x e. same x (find_passes xs x e)) (λ x e. same x (find_passes ys x e))

  -- ---- the first element that passes, after those that fail

  first_here : (xs : List X) (i : ℕ) (x : X) → i < length xs → x ≡ get_or xs i x → AllWithin (λ y. test y ≡ false) xs 0 i → test x ≡ true → find test xs ≡ Some x
  first_here [] i x l e front t = absurd (omega (arith, l))
  first_here (y ∷ ys) zero x l e front t = ap (λ b. if b then Some y else find test ys) (ap test (sym e) ∙ t) ∙ ap Some (sym e)
  first_here (y ∷ ys) (suc i) x l e front t =
      ap (λ b. if b then Some y else find test ys) (front 0 y (omega arith) (omega arith))
      ∙ first_here ys i x (omega (arith, l)) e (λ k d z m. front (suc k) d (omega arith) (omega (arith, m))) t

  find_nowhere : (xs : List X) → AllWithin (λ y. test y ≡ false) xs 0 (length xs) → find test xs ≡ None
  find_nowhere [] h = refl
  find_nowhere (y ∷ ys) h =
      ap (λ b. if b then Some y else find test ys) (h 0 y (omega arith) (omega arith)) ∙ find_nowhere ys (λ k d z l. h (suc k) d (omega arith) (omega (arith, l)))

reverse_ties : (o : Ordering) → (not (is_lt (ordering_reverse o)) && not (is_lt o)) ≡ is_eq o
reverse_ties Less = refl
reverse_ties Equal = refl
reverse_ties Greater = refl

twice : (o : Ordering) → ordering_reverse (ordering_reverse o) ≡ o
twice Less = refl
twice Equal = refl
twice Greater = refl

-- Elements tie with an element that has key k exactly if they have key k.
pub ties_at : {X K : Type 0} {R : K → K → Ordering} (total : IsTotalOrder R) (key : X → K) (k : K) (x : X) → is_eq (R (key x) k) ≡ true → (y : X) →
    ties (λ a b. is_lt (R (key a) (key b))) x y ≡ is_eq (R (key y) k)
ties_at {R = R} total key k x t y =
    let o : Ordering = R (key y) k in
    let ahead : R (key x) (key y) ≡ ordering_reverse o = total.congr (key x) k (key y) ((Equal-is (R (key x) k)).0 t) ∙ total.antisymm k (key y) in
    let after : R (key y) (key x) ≡ o = total.antisymm (key y) (key x) ∙ ap ordering_reverse ahead ∙ twice o in
    ap (λ p. not (is_lt p) && not (is_lt (R (key y) (key x)))) ahead ∙ ap (λ p. not (is_lt (ordering_reverse o)) && not (is_lt p)) after ∙ reverse_ties o

-- ---- sorting entries

module _ {T : Type 0} (bytes : T → List ℕ) where
  abbrev pub is_before : Entry T → Entry T → Bool
  is_before a b = is_lt (key_cmp (entry_key bytes a) (entry_key bytes b))

  pub is_before_orders : IsStrictWeakOrder is_before
  is_before_orders = ranks_by key_cmp_total (entry_key bytes)

  pub sorted_positions : (old new : List (Entry T)) → IsStableBy is_before old new → position_among bytes new ≡ position_among bytes old
  sorted_positions old new stable =
      λ d text.
      ap (option_map (λ (e : Entry T). e.position))
      (find_stable (λ e. is_eq (key_cmp (entry_key bytes e) (sort_key text))) is_before old new (ties_at key_cmp_total (entry_key bytes) (sort_key text)) stable) d

-- ---- binary search

index_of_less : (o : Ordering) → is_lt o ≡ true → ordering_index o ≡ 0
index_of_less o h = grind (arith, nat_tests, is_lt_index o)

less_of_index : (o : Ordering) → ordering_index o ≤ 0 → is_lt o ≡ true
less_of_index o h = grind (arith, nat_tests, is_lt_index o)

less_is_other : (o : Ordering) → is_lt o ≡ true → is_eq o ≡ false
less_is_other o h = grind (arith, nat_tests, is_lt_index o, is_eq_index o)

greater_stays : (o p : Ordering) → is_lt o ≡ false → is_eq o ≡ false → ordering_index o ≤ ordering_index p → is_eq p ≡ false
greater_stays o p l e h = grind (arith, nat_tests, is_lt_index o, is_eq_index o, is_eq_index p)

module _ {X : Type 0} (rank : X → Ordering) (xs : List X) (up : IsNonDecreasingBy (λ y. ordering_index (rank y)) xs) where
  pub parted : IsPartitionedBy (λ y. is_lt (rank y)) xs
  parted i j d l m e =
      let low : ordering_index (rank (get_or xs j d)) ≡ 0 = index_of_less _ e in
      let rise = up i j d l m in
      less_of_index (rank (get_or xs i d)) (omega (arith, low, rise))

  module _ (i : ℕ) (point : IsPartitionPoint (λ y. is_lt (rank y) ≡ true) (λ y. is_lt (rank y) ≡ false) xs i) where
    front : AllWithin (λ y. is_eq (rank y) ≡ false) xs 0 i
    front k d z l = less_is_other _ (point.0 k d z l)

    pub found : (x : X) → i < length xs → x ≡ get_or xs i x → is_eq (rank x) ≡ true → find (λ y. is_eq (rank y)) xs ≡ Some x
    found x l e t = first_here (λ y. is_eq (rank y)) xs i x l e front t

    back : (k : ℕ) (d : X) → i < length xs → is_eq (rank (get_or xs i d)) ≡ false → i ≤ k → k < length xs → is_eq (rank (get_or xs k d)) ≡ false
    back k d l t m n = greater_stays (rank (get_or xs i d)) (rank (get_or xs k d)) (point.1 i d (omega arith) l) t (up i k d m n)

    pub other : (x : X) → i < length xs → x ≡ get_or xs i x → is_eq (rank x) ≡ false → find (λ y. is_eq (rank y)) xs ≡ None
    other x l e t = find_nowhere (λ y. is_eq (rank y)) xs
        (λ k d z n. ⊎_elim
        (λ m. front k d z m)
        (λ m. back k d l (ap (λ y. is_eq (rank y)) (get_or_default xs i d x l ∙ sym e) ∙ t) (omega (arith, m)) n)
        (cases_lt k i))

    pub past : length xs ≤ i → find (λ y. is_eq (rank y)) xs ≡ None
    past l = find_nowhere (λ y. is_eq (rank y)) xs (λ k d z n. front k d z (omega (arith, l, n)))

module _ {T : Type 0} (bytes : T → List ℕ) (es : List (Entry T)) (text : List ℕ) (number : ℕ) (is : number ≡ tail_number text) (sorted : AreSorted bytes es) where
  abbrev rank : Entry T → Ordering
  rank e = key_cmp (entry_key bytes e) (number, text)

  up : IsNonDecreasingBy (λ e. ordering_index (rank e)) es
  up = searchable_from_sorted key_cmp_total (entry_key bytes) es (number, text) sorted

  at : option_map (λ (e : Entry T). e.position) (find (λ e. is_eq (rank e)) es) ≡ position_among bytes es text
  at = ap (λ n. option_map (λ (e : Entry T). e.position) (find (λ e. is_eq (key_cmp (entry_key bytes e) (n, text))) es)) is

  pub parted_texts : IsPartitionedBy (λ e. is_lt (rank e)) es
  parted_texts = parted rank es up

  module _ (i : ℕ) (point : IsPartitionPoint (λ e. is_lt (rank e) ≡ true) (λ e. is_lt (rank e) ≡ false) es i) where
    pub position_found : (e : Entry T) → i < length es → e ≡ get_or es i e → is_eq (rank e) ≡ true → Some e.position ≡ position_among bytes es text
    position_found e l w t = sym (ap (option_map (λ (x : Entry T). x.position)) (found rank es up i point e l w t)) ∙ at

    pub position_other : (e : Entry T) → i < length es → e ≡ get_or es i e → is_eq (rank e) ≡ false → None ≡ position_among bytes es text
    position_other e l w t = sym (ap (option_map (λ (x : Entry T). x.position)) (other rank es up i point e l w t)) ∙ at

    pub position_past : length es ≤ i → None ≡ position_among bytes es text
    position_past l = sym (ap (option_map (λ (x : Entry T). x.position)) (past rank es up i point l)) ∙ at

  -- An entry is the first of its text if the entry before it has another text.
  not_above : (o p : Ordering) → p ≡ Equal → ordering_index o ≤ ordering_index p → is_eq o ≡ false → is_lt o ≡ true
  not_above o p q l e = let one = ap ordering_index q in grind (arith, nat_tests, one, is_lt_index o, is_eq_index o)

  not_below : (o p : Ordering) → p ≡ Equal → ordering_index p ≤ ordering_index o → is_lt o ≡ false
  not_below o p q l = let one = ap ordering_index q in grind (arith, nat_tests, one, is_lt_index o)

  pub position_first : (i : ℕ) (e : Entry T) → i < length es → e ≡ get_or es i e → entry_key bytes e ≡ (number, text) →
      ((k : ℕ) → k + 1 ≡ i → is_eq (rank (get_or es k e)) ≡ false) → position_among bytes es text ≡ Some e.position
  position_first i e l w key others =
      let own : rank e ≡ Equal = ap (λ k. key_cmp k (number, text)) key ∙ tied_itself key_cmp_total (number, text) in
      let here : (d : Entry T) → rank (get_or es i d) ≡ Equal = λ d. ap rank (get_or_default es i d e l ∙ sym w) ∙ own in
      let last : (k : ℕ) (d : Entry T) → k + 1 ≡ i → is_lt (rank (get_or es k d)) ≡ true = λ k d n.
      not_above (rank (get_or es k d)) (rank (get_or es i d)) (here d) (up k i d (omega (arith, n)) l)
      (ap (λ x. is_eq (rank x)) (get_or_default es k d e (omega (arith, n, l))) ∙ others k n) in
      sym (position_found i (
        (λ k d z m. parted_texts k (i - 1) d (omega (arith, m)) (omega (arith, l)) (last (i - 1) d (omega (arith, m)))),
        λ k d n m. not_below (rank (get_or es k d)) (rank (get_or es i d)) (here d) (up i k d n m),
      )
      e l w (ap is_eq own))

-- ---- appending the entries of a list one by one

pub entries_next : {T X : Type 0} (bytes : T → List ℕ) (g : X → List ℕ) (xs : List X) (i : ℕ) (d : X) (old new : List (Entry T)) (e : Entry T) → i < length xs →
    position_among bytes old ≡ text_place (map g (take i xs)) → new ≡ old ++ e ∷ [] → entry_key bytes e ≡ sort_key (g (get_or xs i d)) → e.position ≡ i →
    position_among bytes new ≡ text_place (map g (take (i + 1) xs))
entries_next bytes g xs i d old new e l h n k p =
    let u : List ℕ = g (get_or xs i d) in
    let front : List (List ℕ) = map g (take i xs) in
    let len : i ≡ length front = omega (arith, length-map (take i xs) g, length-take i xs, l) in
    let all : map g (take (i + 1) xs) ≡ front ++ u ∷ [] = ap (map g) (take_more xs i d l) ∙ map-append g (take i xs) (get_or xs i d ∷ []) in
    ap (position_among bytes) n ∙ entry_more bytes old e u i k p
    ∙ (λ s t.
    (ap (λ (f : List ℕ → Option ℕ). option_or (f t) (if bytes_eq u t then Some i else None)) h
    ∙ ap (λ m. option_or (text_place front t) (if bytes_eq u t then Some m else None)) len
    ∙ sym (first_more (λ m. bytes_eq m t) front u) ∙ ap (λ ts. text_place ts t) (sym all)) s)

-- A name's position is that of its text in lower case.
pub names_by_text : {X : Type 0} (g : X → List ℕ) (xs : List X) (n : List ℕ) → text_place (map (λ x. lower_case (g x)) xs) (lower_case n) ≡ name_place (map g xs) n
names_by_text g [] n = refl
names_by_text g (x ∷ xs) n = ap (λ o. if bytes_eq (lower_case (g x)) (lower_case n) then Some 0 else option_map (λ i. i + 1) o) (names_by_text g xs n)
