-- Adding a name to an index of names.
use Rattle.std.proofs.Common.{◌≡◌, ℕ, Bool, true, false, List, [], ◌∷◌, ◌++◌, length, refl, sym, ap, ◌∙◌, Option, Some, None}
use Rattle.std.specs.BTreeMap.{UpdatesBy, get_by, is_at}
use Rattle.std.specs.Cmp.{eq_by_cmp_equiv}
use Rattle.std.specs.Cmp.Lexicographic.{bytes_decides}
use Rattle.std.specs.Global.{Vec}
use Rattle.std.specs.Map.{AreApart, IsKeyTest, KeepsOthers, lookup}
use Rattle.std.specs.Option.{option_or}
use Rattle.std.specs.Ordering.{is_eq}
use Rattle.std.specs.Prelude.{if◌then◌else◌, is_none}
use Rattle.al_base.specs.Names.{lower_case, same_name}
use Rattle.al_base.specs.NamePlaces.{name_place}
use Rattle.al_base.specs.SortedTexts.{Key, key_cmp, sort_key}
use Rattle.al_base.proofs.NamePlaces.{first_more}
use Rattle.al_base.proofs.SortedTexts.{key_cmp_total, same_key}
use Rattle.al_expr_types.specs.Places.{IsNameIndex, and_place, place_in}
use Rattle.al_expr_types.specs.declared.name_index.NameIndex.{NameIndex}

-- a key as the code has it: a number to compare first, and the name
abbrev pub Keyed : Type 0
Keyed = ℕ × Vec ℕ

abbrev pub key_in : Keyed → Key
key_in k = (k.0, k.1.items)

abbrev at_key : Key → Keyed → Bool
at_key key = is_at (λ k. key_cmp key (key_in k))

other_entries : (eq : Keyed → Keyed → Bool) (test : Keyed → Bool) (old new : List (Keyed × ℕ)) → KeepsOthers eq test old new →
    (other : Keyed → Bool) → IsKeyTest eq other → AreApart test other → lookup other new ≡ lookup other old
unfolding KeepsOthers
other_entries eq test old new h = h

apart : (a b k : Key) → is_eq (key_cmp a b) ≡ false → is_eq (key_cmp a k) ≡ true → is_eq (key_cmp b k) ≡ false
apart a b k n y = let o = eq_by_cmp_equiv key_cmp_total in o.symm b k ∙ sym (o.congr a k b y) ∙ n

-- the old value, or the new one at a name that had none
here_or_before : (here : Bool) (old new : Option ℕ) (i : ℕ) → (here ≡ true → old ≡ None) → (here ≡ true → new ≡ Some i) → (here ≡ false → new ≡ old) →
    new ≡ option_or old (if here then Some i else None)
here_or_before true old new i none there apart = there refl ∙ sym (ap (λ o. option_or o (Some i)) (none refl))
here_or_before false None new i none there apart = apart refl
here_or_before false (Some j) new i none there apart = apart refl

-- the entry of a key
abbrev pub entry_at : NameIndex → Key → Option ℕ
entry_at index key = get_by (λ k. key_cmp key (key_in k)) index.positions

-- equal names have the same key
one_key : (name other : List ℕ) → same_name name other ≡ true → sort_key (lower_case name) ≡ sort_key (lower_case other)
one_key name other y = ap sort_key ((bytes_decides (lower_case name) (lower_case other)).0 y)

-- adding a new name
pub added : (old new : NameIndex) (key : Keyed) (name : List ℕ) (i : ℕ) → key_in key ≡ sort_key (lower_case name) → entry_at old (key_in key) ≡ None →
    UpdatesBy (λ (a b : Keyed). key_cmp (key_in a) (key_in b)) (λ (k : Keyed). key_cmp (key_in key) (key_in k)) old.positions new.positions (Some i) →
    place_in new ≡ and_place (place_in old) name i
unfolding place_in
added old new key name i e none u =
    λ d other.
    here_or_before (same_name name other) (place_in old other) (place_in new other) i
    (λ y. ap (entry_at old) (sym (e ∙ one_key name other y)) ∙ none)
    (λ y. ap (entry_at new) (sym (e ∙ one_key name other y)) ∙ u.1)
    (λ n.
    other_entries _ _ _ _ u.3 (at_key (sort_key (lower_case other)))
    (λ x y. (eq_by_cmp_equiv key_cmp_total).congr (sort_key (lower_case other)) (key_in x) (key_in y))
    (λ k. apart (key_in key) (sort_key (lower_case other)) (key_in k)
    (ap (λ q. is_eq (key_cmp q (sort_key (lower_case other)))) e ∙ same_key (lower_case name) (lower_case other) ∙ n))) d

pub none_there : (o : Option ℕ) → true ≡ is_none o → o ≡ None
none_there None h = refl
none_there (Some i) h = absurd cc

was_there : (here : Bool) (o : Option ℕ) (i : ℕ) → (here ≡ true → is_none o ≡ false) → option_or o (if here then Some i else None) ≡ o
was_there here (Some j) i h = refl
was_there true None i h = absurd (cc (h refl))
was_there false None i h = refl

-- a name that is there already changes nothing
pub kept : (index : NameIndex) (key : Key) (name : List ℕ) (i : ℕ) → key ≡ sort_key (lower_case name) → is_none (entry_at index key) ≡ false →
    and_place (place_in index) name i ≡ place_in index
unfolding place_in
kept index key name i e h =
    λ d other.
    was_there (same_name name other) (place_in index other) i (λ y. ap (λ k. is_none (entry_at index k)) (sym (e ∙ one_key name other y)) ∙ h) d

-- if no entry was added
pub same_places : (old new : NameIndex) → new.positions.entries ≡ old.positions.entries → place_in new ≡ place_in old
unfolding place_in
same_places old new e = λ d name. lookup (at_key (sort_key (lower_case name))) (e d)

-- the index of a list of names, with one more name appended
pub placed_new : (old new : NameIndex) (ns : List (List ℕ)) (n : List ℕ) (i : ℕ) → IsNameIndex old ns → i ≡ length ns →
    place_in new ≡ and_place (place_in old) n i → IsNameIndex new (ns ++ n ∷ [])
placed_new old new ns n i h e u =
    u ∙ ap (λ f. and_place f n i) h ∙ ap (and_place (name_place ns) n) e ∙ sym (λ d m. first_more (λ k. same_name k m) ns n d)
