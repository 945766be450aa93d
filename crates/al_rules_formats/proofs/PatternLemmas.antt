-- The state machine that reads a pattern tells whether characters are items.
use Rattle.std.proofs.Common.{◌≡◌, ◌≤◌, ◌<◌, ℕ, List, [], ◌∷◌, length, refl, sym, ap, ◌∙◌, arith, Bool, true, false, cond, ◌&&◌, Option, Some, None, ◌==◌, nat_le, nat_lt, ◌+◌, drop, get_or}
use Rattle.std.proofs.lemmas.Bool.Decides.{nat_tests}
use Rattle.std.proofs.lemmas.List.{at_drop_all, at_drop_more}
use Rattle.std.specs.Prelude.{option_and_then}
use Rattle.al_base.specs.Ascii.{ascii}
use Rattle.al_rules_formats.specs.Patterns.{is_mark, before_bracket, ascends, is_class, are_items_from, goes_on_escaped, goes_on_in_class}
use Rattle.al_rules_formats.specs.Private.PatternStates.{read, read_all, is_done}
use Rattle.al_rules_formats.specs.declared.patterns.State.{State}
use Rattle.al_rules_formats.specs.declared.patterns.State.TheVariants.{FirstItem, AfterItem, AfterEscape, ClassFirst, ClassNext, ClassLow, ClassDash}

-- whether reading these characters from a state ends in an accepting state
abbrev done : State → List ℕ → Bool
done s cs = is_done (read_all s cs)

-- likewise after a transition, if there was one
abbrev goes : List ℕ → Option State → Bool
goes cs next = is_done (option_and_then (λ s. read_all s cs) next)

not_dash : (a c : ℕ) (cs : List ℕ) → (c == ascii "-") ≡ false → ascends (a ∷ c ∷ cs) ≡ ascends (c ∷ cs)
not_dash a c [] h = refl
not_dash a c (d ∷ cs) h = ap (λ t. cond t (nat_le a d && ascends cs) (ascends (c ∷ d ∷ cs))) h

is_dash : (a c : ℕ) (cs : List ℕ) → (c == ascii "-") ≡ true → ascends (a ∷ c ∷ cs) ≡ ascends (a ∷ ascii "-" ∷ cs)
is_dash a c [] h = refl
is_dash a c (d ∷ cs) h = ap (λ t. cond t (nat_le a d && ascends cs) (ascends (c ∷ d ∷ cs))) h

-- A transition within a class. The tests of the character are parameters, so that its cases are those of the tests.
low_at : (a c : ℕ) (cs : List ℕ) (ends dashes : Bool) → (c == ascii "-") ≡ dashes → done AfterItem cs ≡ are_items_from true cs
    → done (ClassDash a) cs ≡ (ascends (a ∷ ascii "-" ∷ before_bracket cs) && goes_on_in_class cs)
    → done (ClassLow c) cs ≡ (ascends (c ∷ before_bracket cs) && goes_on_in_class cs)
    → goes cs (cond ends (Some AfterItem) (cond dashes (Some (ClassDash a)) (Some (ClassLow c))))
    ≡ (ascends (a ∷ cond ends [] (c ∷ before_bracket cs)) && cond ends (are_items_from true cs) (goes_on_in_class cs))
low_at a c cs true dashes e i f g = i
low_at a c cs false true e i f g = f ∙ ap (λ t. t && goes_on_in_class cs) (sym (is_dash a c (before_bracket cs) e))
low_at a c cs false false e i f g = g ∙ ap (λ t. t && goes_on_in_class cs) (sym (not_dash a c (before_bracket cs) e))

descends : (a c : ℕ) → nat_lt c a ≡ true → nat_le a c ≡ false
descends a c h = grind (arith, nat_tests)

keeps : (a c : ℕ) → nat_lt c a ≡ false → nat_le a c ≡ true
keeps a c h = grind (arith, nat_tests)

dash_at : (a c : ℕ) (cs : List ℕ) (ends less : Bool) → nat_lt c a ≡ less → done AfterItem cs ≡ are_items_from true cs
    → done ClassNext cs ≡ (ascends (before_bracket cs) && goes_on_in_class cs)
    → goes cs (cond ends (Some AfterItem) (cond less None (Some ClassNext)))
    ≡ (ascends (a ∷ ascii "-" ∷ cond ends [] (c ∷ before_bracket cs)) && cond ends (are_items_from true cs) (goes_on_in_class cs))
dash_at a c cs true less e i f = i
dash_at a c cs false true e i f = sym (ap (λ t. (t && ascends (before_bracket cs)) && goes_on_in_class cs) (descends a c e))
dash_at a c cs false false e i f = f ∙ sym (ap (λ t. (t && ascends (before_bracket cs)) && goes_on_in_class cs) (keeps a c e))

next_at : (c : ℕ) (cs : List ℕ) (ends : Bool) → done AfterItem cs ≡ are_items_from true cs
    → done (ClassLow c) cs ≡ (ascends (c ∷ before_bracket cs) && goes_on_in_class cs)
    → goes cs (cond ends (Some AfterItem) (Some (ClassLow c)))
    ≡ (ascends (cond ends [] (c ∷ before_bracket cs)) && cond ends (are_items_from true cs) (goes_on_in_class cs))
next_at c cs true i f = i
next_at c cs false i f = f

first_at : (c : ℕ) (cs : List ℕ) (ends : Bool)
    → done (ClassLow c) cs ≡ (ascends (c ∷ before_bracket cs) && goes_on_in_class cs)
    → goes cs (cond ends None (Some (ClassLow c)))
    ≡ (is_class (cond ends [] (c ∷ before_bracket cs)) && cond ends (are_items_from true cs) (goes_on_in_class cs))
first_at c cs true f = refl
first_at c cs false f = f

-- a character outside of a class, after an item or not
item_at : (has_item : Bool) (cs : List ℕ) (escapes opens marks : Bool) → done AfterItem cs ≡ are_items_from true cs
    → done AfterEscape cs ≡ goes_on_escaped cs → done ClassFirst cs ≡ (is_class (before_bracket cs) && goes_on_in_class cs)
    → goes cs (cond escapes (Some AfterEscape) (cond opens (Some ClassFirst) (cond marks (cond has_item (Some AfterItem) None) (Some AfterItem))))
    ≡ cond escapes (goes_on_escaped cs) (cond opens (is_class (before_bracket cs) && goes_on_in_class cs)
    (cond marks (has_item && are_items_from true cs) (are_items_from true cs)))
item_at has_item cs true opens marks i e f = e
item_at has_item cs false true marks i e f = f
item_at true cs false false true i e f = i
item_at false cs false false true i e f = refl
item_at has_item cs false false false i e f = i

-- What each state accepts: after an item, after a `\`, and in a class after nothing, after a range, after a character, and after a
-- character and a `-`.
abbrev IsRead : List ℕ → Type 0
IsRead cs =
    (done AfterItem cs ≡ are_items_from true cs) × (done AfterEscape cs ≡ goes_on_escaped cs)
    × (done ClassFirst cs ≡ (is_class (before_bracket cs) && goes_on_in_class cs))
    × (done ClassNext cs ≡ (ascends (before_bracket cs) && goes_on_in_class cs))
    × ((a : ℕ) → done (ClassLow a) cs ≡ (ascends (a ∷ before_bracket cs) && goes_on_in_class cs))
    × ((a : ℕ) → done (ClassDash a) cs ≡ (ascends (a ∷ ascii "-" ∷ before_bracket cs) && goes_on_in_class cs))

is_read : (cs : List ℕ) → IsRead cs
is_read [] = (refl, refl, refl, refl, (λ a. refl), (λ a. refl))
is_read (c ∷ cs) =
    let f = is_read cs in (
      item_at true cs (c == ascii "\\") (c == ascii "[") (is_mark c) f.0 f.1 f.2,
      f.0,
      first_at c cs (c == ascii "]") (f.4 c),
      next_at c cs (c == ascii "]") f.0 (f.4 c),
      (λ a. low_at a c cs (c == ascii "]") (c == ascii "-") refl f.0 (f.5 a) (f.4 c)),
      (λ a. dash_at a c cs (c == ascii "]") (nat_lt c a) refl f.0 f.3),
    )

states_say : (cs : List ℕ) → done FirstItem cs ≡ are_items_from false cs
states_say [] = refl
states_say (c ∷ cs) =
    let f = is_read cs in item_at false cs (c == ascii "\\") (c == ascii "[") (is_mark c) f.0 f.1 f.2

-- the loop at the end of the characters, and at a character that isn't allowed
pub read_to_end : (state : State) (cs : List ℕ) (i : ℕ) → length cs ≤ i → read_all state (drop i cs) ≡ read_all FirstItem cs → is_done (Some state) ≡ are_items_from false cs
read_to_end state cs i h e = sym (at_drop_all (λ l. is_done (read_all state l)) cs i h) ∙ ap is_done e ∙ states_say cs

pub read_wrong : (state : State) (x : ℕ) (cs : List ℕ) (i : ℕ) → i < length cs → x ≡ get_or cs i x → None ≡ read state x
    → read_all state (drop i cs) ≡ read_all FirstItem cs → false ≡ are_items_from false cs
read_wrong state x cs i h f n e =
    ap (goes (drop (i + 1) cs)) n ∙ ap (λ y. goes (drop (i + 1) cs) (read state y)) f
    ∙ sym (at_drop_more (λ l. is_done (read_all state l)) cs i x h) ∙ ap is_done e ∙ states_say cs

pub not_done : (state : State) → (state ≡ AfterItem → ⊥) → false ≡ is_done (Some state)
not_done AfterItem f = absurd (f refl)
not_done _ f = refl
