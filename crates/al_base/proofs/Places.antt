-- The position at which each text of a list first occurs, from its sorted entries.
use Rattle.std.proofs.Common.{◌≡◌, ◌<◌, ℕ, ◌+◌, ◌-◌, Bool, true, false, ◌&&◌, List, [], ◌∷◌, ◌++◌, length, map, get_or, zero, suc, refl, sym, ap, subst, ◌∙◌, Option, Some}
use Rattle.std.proofs.Common.{arith, inl, inr, slice_set, ⊎_elim}
use Rattle.std.specs.Prelude.{IsPermutation, nat_eq, nat_lt, slice_index}
use Rattle.std.specs.Cmp.{tied_then}
use Rattle.std.specs.Cmp.Lexicographic.{bytes_decides, slice_cmp}
use Rattle.std.specs.Option.{option_eq}
use Rattle.std.specs.Ordering.{is_eq, nat_cmp}
use Rattle.std.proofs.lemmas.Bool.{and_parts, cases_eq, cases_lt, lt-ltb}
use Rattle.std.proofs.lemmas.Grind.{get_or-set_at}
use Rattle.std.proofs.lemmas.List.{get_or-append_right, get_or-set_other, get_or_append_left, get_or-map, get_or_default, length-append, length-map}
use Rattle.std.proofs.lemmas.List.Elements.{All-contains, Contains-get_or}
use Rattle.std.proofs.lemmas.List.Sorted.{All-permutation, Contains-permutation, length_permutation}
use Rattle.std.proofs.lemmas.Map.Text.{is_eq-slice_cmp}
use Rattle.al_base.specs.Names.{lower_case}
use Rattle.al_base.specs.NamePlaces.{TellsFirsts, name_place, text_place}
use Rattle.al_base.specs.SortedTexts.{AreNumbered, AreOf, AreSorted, Key, StandIn, TellPlaces, entry_key, is_own, key_cmp, place_of, position_among, sort_key}
use Rattle.al_base.specs.declared.sorted_texts.Entry.{Entry}
use Rattle.al_base.proofs.SortedTexts.{names_by_text, position_first}

-- Keys that compare as equal have the same text.
same_text : (a b : Key) → is_eq (key_cmp a b) ≡ true → a.1 ≡ b.1
same_text a b e =
    (bytes_decides a.1 b.1).0
    (sym (is_eq-slice_cmp a.1 b.1)
    ∙ (and_parts (is_eq (nat_cmp a.0 b.0)) (is_eq (slice_cmp nat_cmp a.1 b.1)) (tied_then (nat_cmp a.0 b.0) (slice_cmp nat_cmp a.1 b.1) ∙ e)).1)

-- A list with a valid index has an element.
with_one : {X P : Type 0} (xs : List X) (i : ℕ) → i < length xs → (X → P) → P
with_one [] i l f = absurd (omega (arith, l))
with_one (x ∷ xs) i l f = f x

-- the test of `is_own` at a valid index
pub own_within : (places : List ℕ) (i place : ℕ) → i < length places → place ≡ get_or places i place → nat_eq place i ≡ is_own places i
own_within places i place l at = rw (lt-ltb i (length places) l) (ap (λ n. nat_eq n i) (at ∙ get_or_default places i place 0 l))

module _ {T : Type 0} (bytes : T → List ℕ) where
  pub same_place : (es : List (Entry T)) (a b : Entry T) → is_eq (key_cmp (entry_key bytes a) (entry_key bytes b)) ≡ true → place_of bytes es b ≡ place_of bytes es a
  same_place es a b e = ap (position_among bytes es) (sym (same_text (entry_key bytes a) (entry_key bytes b) e))

  pub numbered : (ts : List (List ℕ)) (es : List (Entry T)) → AreOf bytes ts es → AreNumbered bytes es
  numbered ts es of k d l =
      let key = (of k d l).1 in key ∙ ap sort_key (sym (ap (λ (x : Key). x.1) key))

  pub place_at : (es : List (Entry T)) (i : ℕ) (x : Entry T) (place : ℕ) → i < length es → x ≡ get_or es i x → place_of bytes es x ≡ Some place
      → (e : Entry T) → place_of bytes es (get_or es i e) ≡ Some place
  place_at es i x place l is at e = ap (place_of bytes es) (get_or_default es i e x l ∙ sym is) ∙ at

  pub new_place : (es : List (Entry T)) → AreSorted bytes es → AreNumbered bytes es → (i : ℕ) (x : Entry T) → i < length es → x ≡ get_or es i x →
      ((k : ℕ) → k + 1 ≡ i → is_eq (key_cmp (entry_key bytes (get_or es k x)) (entry_key bytes x)) ≡ false) → place_of bytes es x ≡ Some x.position
  new_place es sorted numbers i x l is others =
      let number : entry_key bytes x ≡ sort_key (bytes x.text) = subst (λ (y : Entry T). entry_key bytes y ≡ sort_key (bytes y.text)) (sym is) (numbers i x l) in
      position_first bytes es (bytes x.text) x.number (ap (λ (k : Key). k.0) number) sorted i x l is refl others

  -- One more place is written: that of entry i, at its position.
  pub placed_next : (ts : List (List ℕ)) (es : List (Entry T)) (places : List ℕ) (i : ℕ) (x : Entry T) (place : ℕ) → AreOf bytes ts es → length ts ≡ length es
      → length places ≡ length es → i < length es → x ≡ get_or es i x → place_of bytes es x ≡ Some place
      → ((k : ℕ) (e : Entry T) → k < i → place_of bytes es (get_or es k e) ≡ Some (slice_index places (get_or es k e).position))
      → (k : ℕ) (e : Entry T) → k < i + 1 → place_of bytes es (get_or es k e) ≡ Some (slice_index (slice_set places x.position place) (get_or es k e).position)
  placed_next ts es places i x place of many room l is placed before k e m =
      let y : Entry T = get_or es k e in
      let own = subst (λ (z : Entry T). entry_key bytes z ≡ sort_key (get_or ts z.position [])) (sym is) (of i x l).1 in
      elim (cases_eq y.position x.position) [
        | inl same ↦
            let texts : bytes y.text ≡ bytes x.text =
            ap (λ (k : Key). k.1) (of k e (omega (arith, m, l))).1 ∙ ap (λ n. get_or ts n []) same ∙ sym (ap (λ (k : Key). k.1) own) in
            let inside = (of k e (omega (arith, m, l))).0 in
            ap (position_among bytes es) texts ∙ placed
            ∙ ap Some (sym (get_or-set_at places x.position y.position place 0 same (omega (arith, inside, same, many, room))))
        | inr other ↦
            let earlier : k < i = ⊎_elim (λ h. h)
            (λ h. absurd (other (let z : k ≡ i = omega (arith, h, m) in
            ap (λ (v : Entry T). v.position) (ap (λ j. get_or es j e) z ∙ get_or_default es i e x l ∙ sym is)))) (cases_lt k i) in
            before k e earlier ∙ ap Some (sym (get_or-set_other places x.position y.position place 0 other))
      ]

  -- ---- the entries before they are sorted

  abbrev pub InTurn : List (List ℕ) → List (Entry T) → Type 0
  InTurn ts es = (k : ℕ) (d : Entry T) → k < length es → ((get_or es k d).position ≡ k) × (entry_key bytes (get_or es k d) ≡ sort_key (get_or ts k []))

  pub turn_next : {X : Type 0} (g : X → List ℕ) (xs : List X) (i : ℕ) (d : X) (old new : List (Entry T)) (e : Entry T) → i < length xs → length old ≡ i → InTurn (map g xs) old →
      new ≡ old ++ e ∷ [] → entry_key bytes e ≡ sort_key (g (get_or xs i d)) → e.position ≡ i → (length new ≡ i + 1) × InTurn (map g xs) new
  turn_next g xs i d old new e l many turn is key at =
      let ts : List (List ℕ) = map g xs in (
        ap length is ∙ length-append old (e ∷ []) ∙ ap (λ n. n + 1) many,
        subst (InTurn ts) (sym is)
            (λ k f m. ⊎_elim
            (λ earlier. subst (λ (y : Entry T). (y.position ≡ k) × (entry_key bytes y ≡ sort_key (get_or ts k []))) (sym (get_or_append_left old (e ∷ []) f k earlier)) (turn k f earlier))
            (λ n.
            (let z : k ≡ i = omega (arith, n, many, m, length-append old (e ∷ [])) in
            let here : get_or (old ++ e ∷ []) k f ≡ e = get_or-append_right old (e ∷ []) i k f many (omega (arith, z)) ∙ ap (λ j. get_or (e ∷ []) j f) (let o : k - i ≡ 0 = omega (arith, z) in o) in
            subst (λ (y : Entry T). (y.position ≡ k) × (entry_key bytes y ≡ sort_key (get_or ts k []))) (sym here)
            (at ∙ sym z, key ∙ ap sort_key (sym (get_or-map g xs i d [] l) ∙ ap (λ j. get_or ts j []) (sym z)))))
            (cases_lt k (length old))),
      )

  -- ---- the entries after they are sorted

  module _ (ts : List (List ℕ)) (old new : List (Entry T)) (many : length old ≡ length ts) (turn : InTurn ts old) (permuted : IsPermutation old new) where
    pub stand : StandIn bytes new
    stand = (
      ts,
      sym many ∙ sym (length_permutation old new permuted),
      All-permutation (λ e. (e.position < length ts) × (entry_key bytes e ≡ sort_key (get_or ts e.position []))) old new permuted
          (λ k d l. (omega (arith, (turn k d l).0, l, many), (turn k d l).1 ∙ ap (λ n. sort_key (get_or ts n [])) (sym (turn k d l).0))),
    )

    own_place : (places : List ℕ) → TellPlaces bytes new places → (place : List ℕ → Option ℕ) → position_among bytes new ≡ place → (i : ℕ) (d : Entry T) → i < length old →
        is_own places i ≡ option_eq nat_eq (place (get_or ts i [])) (Some i)
    own_place places told place is i d l =
        let e : Entry T = get_or old i d in
        let at : place (get_or ts i []) ≡ Some (slice_index places i) =
        sym (ap (λ f. f (get_or ts i [])) is) ∙ ap (position_among bytes new) (sym (ap (λ (y : Key). y.1) (turn i d l).1))
        ∙ All-contains (λ x. place_of bytes new x ≡ Some (slice_index places x.position)) new e told.1 (Contains-permutation old new e permuted (Contains-get_or old i d l))
        ∙ ap (λ n. Some (slice_index places n)) (turn i d l).0 in
        let within : nat_lt i (length places) ≡ true = lt-ltb i (length places) (omega (arith, l, told.0, length_permutation old new permuted)) in
        ap (λ b. b && nat_eq (slice_index places i) i) within ∙ sym (ap (λ o. option_eq nat_eq o (Some i)) at)

    pub firsts : (places : List ℕ) → TellPlaces bytes new places → (place : List ℕ → Option ℕ) → position_among bytes new ≡ place → TellsFirsts place ts (is_own places)
    firsts places told place is i l = with_one old i (omega (arith, l, many)) (λ d. own_place places told place is i d (omega (arith, l, many)))

-- ---- the first occurrences of names are those of their texts in lower case

lower_at : {X : Type 0} (g : X → List ℕ) (xs : List X) (i : ℕ) → get_or (map (λ x. lower_case (g x)) xs) i [] ≡ lower_case (get_or (map g xs) i [])
lower_at g [] i = refl
lower_at g (x ∷ xs) zero = refl
lower_at g (x ∷ xs) (suc i) = lower_at g xs i

pub first_names : {X : Type 0} (g : X → List ℕ) (xs : List X) (first : ℕ → Bool) →
    TellsFirsts (text_place (map (λ x. lower_case (g x)) xs)) (map (λ x. lower_case (g x)) xs) first → TellsFirsts (name_place (map g xs)) (map g xs) first
first_names g xs first told i l =
    let ts : List (List ℕ) = map (λ x. lower_case (g x)) xs in
    told i (omega (arith, l, length-map xs g, length-map xs (λ x. lower_case (g x))))
    ∙ ap (λ o. option_eq nat_eq o (Some i)) (ap (text_place ts) (lower_at g xs i) ∙ names_by_text g xs (get_or (map g xs) i []))
