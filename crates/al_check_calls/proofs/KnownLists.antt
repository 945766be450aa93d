-- Lists of output names, stored once for each caller and text: appending a list, and the answers that refer to the lists.
use Rattle.std.proofs.Common.{◌≡◌, ◌<◌, ◌≤◌, ◌+◌, ◌++◌, ◌∙◌, ℕ, List, [], ◌∷◌, Bool, true, false, cond, Bor, Option, Some, None, refl, sym, ap}
use Rattle.std.proofs.Common.{append-nil, append_assoc, get_or, length, map, subst, take}
use Rattle.std.specs.Prelude.{All, if◌then◌else◌, is_some, option_and_then, slice_get}
use Rattle.std.specs.BTreeMap.{Updates, get, is_at}
use Rattle.std.specs.Cmp.Lexicographic.{slice_cmp}
use Rattle.std.specs.Map.{lookup}
use Rattle.std.specs.Ordering.{bool_cmp, is_eq, nat_cmp, ordering_then}
use Rattle.std.specs.declared.cmp.Ordering.{Ordering}
use Rattle.std.proofs.lemmas.List.{length-map, map-append, take_all, take_more}
use Rattle.std.proofs.lemmas.List.Elements.{All-contains, All-from_recursion, All-weaker}
use Rattle.std.proofs.lemmas.Map.Text.{is_eq-slice_cmp}
use Rattle.std.proofs.lemmas.Slice.Eq.{bytes_eq-Decides}
use Rattle.al_base.specs.declared.codes.Caller.TheVariants as caller
use Rattle.al_tree.proofs.Kept.{all_seen}
use Rattle.al_check_calls.specs.Answers.{Answered}
use Rattle.al_check_calls.specs.Preconditions.{AreToldByUses}
use Rattle.al_check_calls.specs.CallFaults.{callable_signature}
use Rattle.al_check_interfaces.specs.Uses.{site_caller}
use Rattle.al_check_interfaces.specs.declared.interfaces.Signature.{Signature}
use Rattle.al_check_calls.specs.Outputs.{called_outputs, known_from_calls, known_of_call, shows_outputs}
use Rattle.al_check_calls.specs.AnswerViews.{answered_of}
use Rattle.al_check_calls.specs.declared.answers.Answered as code
use Rattle.al_check_contexts.specs.Answered.{OutputsOfCall, call_outputs, known_in}
use Rattle.al_check_contexts.specs.declared.known.Answer.{Answer}
use Rattle.al_check_calls.specs.Private.KnownLists.{ArePlaced, Naming, StandsAt, Takes, lists_of, position_of}
use Rattle.al_check_calls.specs.declared.known.Lists.{Lists}
use Rattle.std.specs.Bool.{then_some}

abbrev Names : Type 0
Names = List (List ℕ)

-- ---- keys of the map

abbrev Key : Type 0
Key = Bool × Bor (List ℕ)

abbrev key_cmp : Key → Key → Ordering
key_cmp a b = ordering_then (bool_cmp a.0 b.0) (slice_cmp nat_cmp a.1.now b.1.now)

abbrev to_key : Bool → List ℕ → Key
to_key of_step text = (of_step, record { ref_ptr = (0, 0); now = text })

same_both : (a b : Bool) (o : Ordering) → is_eq (ordering_then (bool_cmp a b) o) ≡ true → (b ≡ a) × (is_eq o ≡ true)
same_both false false o e = (refl, e)
same_both true true o e = (refl, e)
same_both _ _ o e = absurd cc

same_text : (a b : List ℕ) → is_eq (slice_cmp nat_cmp a b) ≡ true → b ≡ a
same_text a b e = sym ((bytes_eq-Decides a b).0 (sym (is_eq-slice_cmp a b) ∙ e))

-- ---- the names at a position

pub grown_stands : (lists new added : List Names) (position : Option ℕ) (names : Option Names) → new ≡ lists ++ added → StandsAt lists position names → StandsAt new position names
grown_stands lists new added position names e stands more =
    ap (λ ls. option_and_then (slice_get ls) position) (ap (λ ls. ls ++ more) e ∙ append_assoc lists added more) ∙ stands (added ++ more)

list_there : (lists : List Names) (names : Names) (more : List Names) → slice_get ((lists ++ names ∷ []) ++ more) (length lists) ≡ Some names
list_there [] names more = refl
list_there (l ∷ lists) names more = list_there lists names more

pub pushed_lists : (items new : List (Bor Names)) (l : Bor Names) → new ≡ items ++ l ∷ [] → map (λ n. n.now) new ≡ map (λ n. n.now) items ++ l.now ∷ []
pushed_lists items new l e = ap (map (λ n. n.now)) e ∙ map-append (λ n. n.now) items (l ∷ [])

pub pushed_stands : (items new : List (Bor Names)) (l : Bor Names) (position : ℕ) → new ≡ items ++ l ∷ [] → position ≡ length items → StandsAt (map (λ n. n.now) new) (Some position) (Some l.now)
pushed_stands items new l position e at more =
    let lists : List Names = map (λ n. n.now) items in
    ap (λ ls. slice_get (ls ++ more) position) (pushed_lists items new l e)
    ∙ ap (slice_get ((lists ++ l.now ∷ []) ++ more)) (at ∙ sym (length-map items (λ n. n.now))) ∙ list_there lists l.now more

-- ---- the names at known positions

pub none_placed : (naming : Naming) (ls : Lists) → ls.positions.entries ≡ [] → ArePlaced naming ls
unfolding position_of
none_placed naming ls e = record {
  at = λ of_step text position is.
      let none : None ≡ Some position = sym (ap (lookup (is_at (key_cmp (to_key of_step text)))) e) ∙ is in
      absurd cc;
}

put_at : (naming : Naming) (lists : List Names) (of_step key_step : Bool) (text key_text : List ℕ) (put position : ℕ) (old : Option ℕ) (test : Bool) →
    (test ≡ true → (of_step ≡ key_step) × (text ≡ key_text)) → StandsAt lists (Some put) (naming key_step key_text) →
    ((p : ℕ) → old ≡ Some p → StandsAt lists (Some p) (naming of_step text)) → cond test (Some put) old ≡ Some position → StandsAt lists (Some position) (naming of_step text)
put_at naming lists of_step key_step text key_text put position old true same here there is =
    let at : position ≡ put = cc in
    let key = same refl in
    λ more. ap (slice_get (lists ++ more)) at ∙ here more ∙ λ j. naming (sym key.0 j) (sym key.1 j)
put_at naming lists of_step key_step text key_text put position old false same here there is = there position is

-- storing the names for one more caller and text, which get a position
pub put_takes : (old new : Lists) (key : Key) (names : Names) (put : ℕ) → Updates key_cmp old.positions new.positions key (Some put) →
    lists_of new ≡ lists_of old ++ names ∷ [] → StandsAt (lists_of new) (Some put) (Some names) → Takes old new key.0 key.1.now (Some names) (Some put)
unfolding position_of
put_takes old new key names put updates grown stands = record {
  added = names ∷ [];
  grown = grown;
  placed = λ naming told before. record {
    at = λ of_step text position is.
        put_at naming (lists_of new) of_step key.0 text key.1.now put position (get key_cmp old.positions (to_key of_step text)) (is_at (key_cmp key) (to_key of_step text))
        (λ e. let same = same_both key.0 of_step (slice_cmp nat_cmp key.1.now text) e in (same.0, same_text key.1.now text same.1))
        (λ more. stands more ∙ sym told)
        (λ p found. grown_stands (lists_of old) (lists_of new) (names ∷ []) (Some p) (naming of_step text) grown (before.at of_step text p found))
        (sym (updates.0 (to_key of_step text)) ∙ is);
  };
  stands = λ naming told before. stands;
}

-- nothing is stored
unchanged_takes : (ls : Lists) (of_step : Bool) (text : List ℕ) (names : Option Names) (position : Option ℕ) →
    ((naming : Naming) → naming of_step text ≡ names → ArePlaced naming ls → StandsAt (lists_of ls) position names) → Takes ls ls of_step text names position
unchanged_takes ls of_step text names position stands = record {
  added = [];
  grown = sym (append-nil (lists_of ls));
  placed = λ naming told before. before;
  stands = stands;
}

pub found_takes : (ls : Lists) (of_step : Bool) (text : List ℕ) (names : Option Names) (position : ℕ) → position_of ls of_step text ≡ Some position →
    Takes ls ls of_step text names (Some position)
found_takes ls of_step text names position is =
    unchanged_takes ls of_step text names (Some position) (λ naming told before more. before.at of_step text position is more ∙ told)

pub none_takes : (ls : Lists) (of_step : Bool) (text : List ℕ) (names : Option Names) → names ≡ None → Takes ls ls of_step text names None
none_takes ls of_step text names none = unchanged_takes ls of_step text names None (λ naming told before more. sym none)

pub takes_as : {old new : Lists} {b b' : Bool} {t t' : List ℕ} {n n' : Option Names} {position : Option ℕ} → b ≡ b' → t ≡ t' → n ≡ n' → Takes old new b t n position →
    Takes old new b' t' n' position
takes_as {old} {new} {position = position} e f g h = subst (λ (x : Bool × List ℕ × Option Names). Takes old new x.0 x.1 x.2 position) (λ i. (e i, f i, g i)) h

-- ---- the answers so far

abbrev IsNamed : Naming → Answered → Type 0
IsNamed naming a = naming (is_some a.call.site.step) a.call.text ≡ called_outputs a

-- The first `i` calls have these answers, if a naming gives the names of each call.
abbrev pub AreKnown : List code.Answered → ℕ → Lists → List Answer → Type 0
AreKnown answered i ls known =
    (naming : Naming) → All (IsNamed naming) (map answered_of answered)
    → ArePlaced naming ls × ((more : List Names) → map (call_outputs (lists_of ls ++ more)) known ≡ map known_of_call (map answered_of (take i answered)))

named_at : (naming : Naming) (answered : List code.Answered) (i : ℕ) (a : code.Answered) → All (IsNamed naming) (map answered_of answered) →
    i < length answered → a ≡ get_or answered i a → IsNamed naming (answered_of a)
named_at naming answered i a named within is =
    All-contains (λ x. IsNamed naming (answered_of x)) answered a (all_seen answered_of (IsNamed naming) answered named) (i, within, sym is)

-- one more call
pub one_known : (answered : List code.Answered) (i : ℕ) (a : code.Answered) (old new : Lists) (known now : List Answer) (position : Option ℕ) → i < length answered →
    a ≡ get_or answered i a → Takes old new (is_some (answered_of a).call.site.step) (answered_of a).call.text (called_outputs (answered_of a)) position →
    now ≡ known ++ record { job = a.call.site.job; step = a.call.site.step; names = position } ∷ [] → AreKnown answered i old known → AreKnown answered (i + 1) new now
one_known answered i a old new known now position within is takes pushed before naming named =
    let placed = (before naming named).0 in
    let told = named_at naming answered i a named within is in
    let stands = takes.stands naming told placed in
    let answer : Answer = record { job = a.call.site.job; step = a.call.site.step; names = position } in
    let calls : take (i + 1) answered ≡ take i answered ++ a ∷ [] = take_more answered i a within ∙ ap (λ x. take i answered ++ x ∷ []) (sym is) in
    let outputs : map known_of_call (map answered_of (take (i + 1) answered)) ≡ map known_of_call (map answered_of (take i answered)) ++ known_of_call (answered_of a) ∷ [] =
    ap (λ l. map known_of_call (map answered_of l)) calls ∙ ap (map known_of_call) (map-append answered_of (take i answered) (a ∷ []))
    ∙ map-append known_of_call (map answered_of (take i answered)) (answered_of a ∷ []) in (
      takes.placed naming told placed,
      λ more.
          let seen : Answer → OutputsOfCall = call_outputs (lists_of new ++ more) in
          let here : seen answer ≡ known_of_call (answered_of a) =
          ap (λ (names : Option Names). record { job = (answered_of a).call.site.job; step = a.call.site.step; names = names }) (stands more) in
          let so_far : map seen known ≡ map known_of_call (map answered_of (take i answered)) =
          ap (λ ls. map (call_outputs ls) known) (ap (λ ls. ls ++ more) takes.grown ∙ append_assoc (lists_of old) takes.added more)
          ∙ (before naming named).1 (takes.added ++ more) in
          ap (map seen) pushed ∙ map-append seen known (answer ∷ [])
          ∙ (λ j. so_far j ++ here j ∷ []) ∙ sym outputs,
    )

abbrev outputs_in : Signature → Option (List (List ℕ))
outputs_in s = then_some (shows_outputs s.role) s.outputs

abbrev naming_of : (found : List Answered) → AreToldByUses found → Naming
naming_of found told of_step text =
    let by = if of_step then caller.Step else caller.Job in
    option_and_then outputs_in (callable_signature by (told.answer by text))

-- all calls
pub all_known : (answered : List code.Answered) (i : ℕ) (ls : Lists) (known : List Answer) → length answered ≤ i → AreToldByUses (map answered_of answered) →
    AreKnown answered i ls known → known_in (map (call_outputs (lists_of ls)) known) ≡ known_from_calls (map answered_of answered)
all_known answered i ls known end told so_far =
    let found = map answered_of answered in
    let naming = naming_of found told in
    let IsAnswered : Answered → Type 0 = λ a. a.answer ≡ told.answer (site_caller a.call.site) a.call.text in
    let named = All-weaker IsAnswered (IsNamed naming) (λ a h. ap (λ o. option_and_then outputs_in (callable_signature (site_caller a.call.site) o)) (sym h))
    found (All-from_recursion IsAnswered found told.told) in
    ap known_in
    (ap (λ l. map (call_outputs l) known) (sym (append-nil (lists_of ls))) ∙ (so_far naming named).1 []
    ∙ ap (λ l. map known_of_call (map answered_of l)) (take_all i answered end))
