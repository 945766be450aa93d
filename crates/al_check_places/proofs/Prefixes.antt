-- Whether a path begins some keys, from its last key on; and the keys of ways that are one step longer or shorter.
use Rattle.std.proofs.Common.{◌≡◌, ◌<◌, ◌≤◌, ◌+◌, ◌-◌, ◌∙◌, ℕ, List, [], ◌∷◌, ◌++◌, length, map, take, get_or, ap, append-nil, refl, sym, arith, Bool, true, false, ◌&&◌}
use Rattle.std.proofs.Common.{Option, Some, Bor}
use Rattle.std.proofs.Math.Bool.{and-false, and-true, and_assoc}
use Rattle.std.proofs.Math.Seq.{take-append_seam}
use Rattle.std.proofs.lemmas.List.{get_or-map, length-append, length-map, length-take, map-append, map_more, take-map}
use Rattle.std.proofs.lemmas.List.Elements.{filter_map-append}
use Rattle.std.specs.Option.{option_map_or, option_to_list}
use Rattle.std.specs.Prelude.{if◌then◌else◌, is_ok, IsOk, Result, Ok, Err}
use Rattle.std.specs.Str.{bytes_eq}
use Rattle.al_check_places.specs.Paths.{Path, is_path_prefix, key_view}
use Rattle.al_check_places.specs.Ways.{keys_of, step_key, way_step_view}
use Rattle.al_check_places.specs.declared.table.Key.{Key}
use Rattle.al_check_places.specs.declared.ways.WayStep as rust
use Rattle.al_check_places.specs.declared.ways.WayStep.TheVariants.{Nth, Under}

abbrev texts : List (Bor (List ℕ)) → List (List ℕ)
texts ks = map (λ k. k.now) ks

abbrev fits : Option (List ℕ) → List ℕ → Bool
fits p k = option_map_or (λ name. bytes_eq name k) p true

-- a path that is longer than the keys doesn't begin them
pub too_long : (ps : Path) (ks : List (List ℕ)) → length ks < length ps → is_path_prefix ps ks ≡ false
too_long [] ks h = absurd (omega (arith, h))
too_long (p ∷ ps) [] h = refl
too_long (p ∷ ps) (k ∷ ks) h = ap (λ b. fits p k && b) (too_long ps ks (omega (arith, h))) ∙ and-false (fits p k)

-- a path that is one key longer
longer : (ps : Path) (p : Option (List ℕ)) (ks : List (List ℕ)) → length ps < length ks →
    is_path_prefix (ps ++ p ∷ []) ks ≡ (is_path_prefix ps ks && fits p (get_or ks (length ps) []))
longer [] p [] h = absurd (omega (arith, h))
longer [] p (k ∷ ks) h = and-true (fits p k)
longer (q ∷ ps) p [] h = absurd (omega (arith, h))
longer (q ∷ ps) p (k ∷ ks) h =
    ap (λ b. fits q k && b) (longer ps p ks (omega (arith, h))) ∙ sym (and_assoc (fits q k) (is_path_prefix ps ks) (fits p (get_or ks (length ps) [])))

-- the first keys of a path, and those without the last one of them
pub without_key : (path : List Key) (keys : List (Bor (List ℕ))) (n : ℕ) (d : Key) (e : Bor (List ℕ)) (b : Bool) → 0 < n → n ≤ length path → length path ≤ length keys →
    b ≡ fits (key_view (get_or path (n - 1) d)) (get_or keys (n - 1) e).now →
    is_path_prefix (map key_view (take n path)) (texts keys) ≡ (is_path_prefix (map key_view (take (n - 1) path)) (texts keys) && b)
without_key path keys n d e b some inside within h =
    let i = n - 1 in
    let ks = texts keys in
    let before = map key_view (take i path) in
    let last = key_view (get_or path i d) in
    let count : i + 1 ≡ n = omega (arith, some) in
    let len : length before ≡ i = length-map (take i path) key_view ∙ omega (arith, length-take i path, inside) in
    ap (λ m. is_path_prefix (map key_view (take m path)) ks) (sym count)
    ∙ ap (λ ps. is_path_prefix ps ks) (map_more key_view path i d (omega (arith, some, inside)))
    ∙ longer before last ks (omega (arith, len, some, inside, within, length-map keys (λ k. k.now)))
    ∙ ap (λ m. is_path_prefix before ks && fits last (get_or ks m [])) len
    ∙ ap (λ k. is_path_prefix before ks && fits last k) (get_or-map (λ k. k.now) keys i e [] (omega (arith, some, inside, within)))
    ∙ ap (λ c. is_path_prefix before ks && c) (sym h)

-- ---- ways

abbrev keys_along : List rust.WayStep → List (List ℕ)
keys_along way = keys_of (map way_step_view way)

keys_more : (way : List rust.WayStep) (s : rust.WayStep) → keys_along (way ++ s ∷ []) ≡ keys_along way ++ keys_of (way_step_view s ∷ [])
keys_more way s =
    ap keys_of (map-append way_step_view way (s ∷ [])) ∙ filter_map-append step_key (map way_step_view way) (way_step_view s ∷ [])

-- a way that is one key longer, or one item
pub entered_value : (way longer : List rust.WayStep) (key : Bor (List ℕ)) (ks more : List (Bor (List ℕ))) → longer ≡ way ++ Under key ∷ [] →
    more ≡ ks ++ key ∷ [] → texts ks ≡ keys_along way → texts more ≡ keys_along longer
entered_value way longer key ks more l m e =
    ap texts m ∙ map-append (λ k. k.now) ks (key ∷ []) ∙ ap (λ us. us ++ key.now ∷ []) e ∙ sym (ap keys_along l ∙ keys_more way (Under key))

pub entered_item : (b : Bool) (way longer : List rust.WayStep) (i : ℕ) (ks : List (Bor (List ℕ))) → longer ≡ (if b then way ++ Nth i ∷ [] else way) →
    texts ks ≡ keys_along way → texts ks ≡ keys_along longer
entered_item true way longer i ks l e = e ∙ sym (ap keys_along l ∙ keys_more way (Nth i) ∙ append-nil (keys_along way))
entered_item false way longer i ks l e = e ∙ sym (ap keys_along l)

without_last : (ks : List (Bor (List ℕ))) (n : ℕ) (ys : List (List ℕ)) (y : List ℕ) → n ≡ length ks → texts ks ≡ ys ++ y ∷ [] → texts (take (n - 1) ks) ≡ ys
without_last ks n ys y h e =
    let len : length ks ≡ length ys + 1 = sym (length-map ks (λ k. k.now)) ∙ ap length e ∙ length-append ys (y ∷ []) in
    let count : n - 1 ≡ length ys = omega (arith, h, len) in
    sym (take-map (λ k. k.now) (n - 1) ks) ∙ ap (take (n - 1)) e ∙ ap (λ n. take n (ys ++ y ∷ [])) count ∙ take-append_seam ys (y ∷ [])

-- one that is shorter again
pub left_value : (way shorter : List rust.WayStep) (o : Option rust.WayStep) (step : rust.WayStep) (key : Bor (List ℕ)) (ks fewer : List (Bor (List ℕ))) (n : ℕ) →
    way ≡ shorter ++ option_to_list o → o ≡ Some step → step ≡ Under key → n ≡ length ks → fewer ≡ take (n - 1) ks → texts ks ≡ keys_along way →
    texts fewer ≡ keys_along shorter
left_value way shorter o step key ks fewer n w is u h f e =
    ap texts f
    ∙ without_last ks n (keys_along shorter) key.now h
    (e ∙ ap keys_along (w ∙ ap (λ p. shorter ++ option_to_list p) (is ∙ ap Some u)) ∙ keys_more shorter (Under key))

pub left_item : (way shorter : List rust.WayStep) (o : Option rust.WayStep) (step : rust.WayStep) (i : ℕ) (ks : List (Bor (List ℕ))) →
    way ≡ shorter ++ option_to_list o → o ≡ Some step → step ≡ Nth i → texts ks ≡ keys_along way → texts ks ≡ keys_along shorter
left_item way shorter o step i ks w is u e =
    e ∙ ap keys_along (w ∙ ap (λ p. shorter ++ option_to_list p) (is ∙ ap Some u)) ∙ keys_more shorter (Nth i) ∙ append-nil (keys_along shorter)

-- a push that succeeds
pub pushed : {T E X : Type 0} (r : Result T E) (a b : X) → IsOk r → (if is_ok r then a else b) ≡ a
pushed (Ok x) a b h = refl
pushed (Err e) a b h = absurd cc
