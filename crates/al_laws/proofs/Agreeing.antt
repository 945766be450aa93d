-- Two readings that agree: from any known anchors they have the same outcome, and a property holds for what they give.
use Rattle.std.proofs.Common.{◌≡◌, ℕ, List, [], ◌∷◌, refl, ap, ◌∙◌, Bool, true, false, if◌then◌else◌, Option, Some, None, Result, Ok, Err}
use Rattle.al_base.specs.declared.codes.YamlCode.{YamlCode}
use Rattle.al_scalar.specs.declared.faults.FaultAt.{FaultAt}
use Rattle.al_yaml_tree.specs.Content.{unless_code}
use Rattle.al_yaml_tree.specs.Reading.{Start, Anchor, KnownAnchors, Outcome, Reading, gives, fails, of_result, after, next, with_start}
use Rattle.al_yaml_tree.specs.Reading.{gives_with_anchor, alias, ◌>>=◌}

-- P holds for a value
abbrev pub Gives : {A : Type 0} → (A → Type 0) → Result A FaultAt → Type 0
Gives P (Ok x) = P x
Gives P (Err e) = Unit {0}

pub record Agree {A : Type 0} (P : A → Type 0) (r s : Reading A) : Type 0 where
  pub same : (known : KnownAnchors) → r known ≡ s known
  pub kept : (known : KnownAnchors) → Gives P (r known).answer

-- every value has this property
abbrev pub Anything : {A : Type 0} → A → Type 0
Anything x = Unit {0}

pub any-given : {A : Type 0} (r : Result A FaultAt) → Gives Anything r
any-given (Ok x) = tt
any-given (Err e) = tt

gives-also : {A : Type 0} (P Q : A → Type 0) (r : Result A FaultAt) → ((x : A) → P x → Q x) → Gives P r → Gives Q r
gives-also P Q (Ok x) f h = f x h
gives-also P Q (Err e) f h = tt

abbrev answering : {A : Type 0} → Outcome A → Result A FaultAt → Outcome A
answering o a = record { starts = o.starts; answer = a; known = o.known }

next-same : {A B : Type 0} (P : A → Type 0) (o : Outcome A) (g h : A → Reading B) → Gives P o.answer
    → ((x : A) → P x → (known : KnownAnchors) → g x known ≡ h x known) → next o g ≡ next o h
next-same {A} {B} P o g h k f = by-answer o.answer k
  where
    by-answer : (a : Result A FaultAt) → Gives P a → next (answering o a) g ≡ next (answering o a) h
    by-answer (Err e) i = refl
    by-answer (Ok x) i = ap (after o.starts) (f x i o.known)

next-kept : {A B : Type 0} (P : A → Type 0) (Q : B → Type 0) (o : Outcome A) (g : A → Reading B) → Gives P o.answer
    → ((x : A) → P x → (known : KnownAnchors) → Gives Q (g x known).answer) → Gives Q (next o g).answer
next-kept {A} {B} P Q o g k f = by-answer o.answer k
  where
    by-answer : (a : Result A FaultAt) → Gives P a → Gives Q (next (answering o a) g).answer
    by-answer (Err e) i = tt
    by-answer (Ok x) i = f x i o.known

pub agree-value : {A : Type 0} {P : A → Type 0} {x : A} → P x → Agree P (gives x) (gives x)
agree-value h = record { same = λ known. refl; kept = λ known. h }

pub agree-fault : {A : Type 0} {P : A → Type 0} {code : YamlCode} {at : ℕ} → Agree P (fails code at) (fails code at)
agree-fault = record { same = λ known. refl; kept = λ known. tt }

pub agree-given : {A : Type 0} (P : A → Type 0) (r : Result A FaultAt) → Gives P r → Agree P (of_result r) (of_result r)
agree-given P r h = record { same = λ known. refl; kept = λ known. h }

pub agree-then : {A B : Type 0} {P : A → Type 0} {Q : B → Type 0} {r s : Reading A} {g h : A → Reading B} → Agree P r s
    → ((x : A) → P x → Agree Q (g x) (h x)) → Agree Q (r >>= g) (s >>= h)
agree-then {P = P} {Q = Q} {r = r} {s = s} {g = g} {h = h} k f = record {
  same = λ known. next-same P (r known) g h (k.kept known) (λ x i now. (f x i).same now) ∙ ap (λ o. next o h) (k.same known);
  kept = λ known. next-kept P Q (r known) g (k.kept known) (λ x i now. (f x i).kept now);
}

pub agree-start : {A : Type 0} {P : A → Type 0} {s : Start} {r q : Reading A} → Agree P r q → Agree P (with_start s r) (with_start s q)
agree-start {s = s} h = record { same = λ known. ap (after (s ∷ [])) (h.same known); kept = λ known. h.kept known }

pub agree-unless : {A : Type 0} {P : A → Type 0} (o : Option YamlCode) (at : ℕ) {r s : Reading A} → Agree P r s
    → Agree P (unless_code o at r) (unless_code o at s)
agree-unless None at h = h
agree-unless (Some code) at h = agree-fault

pub agree-by : {A : Type 0} {P : A → Type 0} (b : Bool) {r r' s s' : Reading A} → (b ≡ true → Agree P r r') → (b ≡ false → Agree P s s')
    → Agree P (if b then r else s) (if b then r' else s')
agree-by true h k = h refl
agree-by false h k = k refl

pub agree-also : {A : Type 0} {P Q : A → Type 0} {r s : Reading A} → Agree P r s → ((x : A) → P x → Q x) → Agree Q r s
agree-also {P = P} {Q = Q} {r = r} h f = record { same = λ known. h.same known; kept = λ known. gives-also P Q (r known).answer f (h.kept known) }

pub agree-alias : (name : List ℕ) (at depth : ℕ) → Agree Anything (alias name at depth) (alias name at depth)
agree-alias name at depth = record { same = λ known. refl; kept = λ known. any-given (alias name at depth known).answer }

pub agree-anchored : {A : Type 0} {P : A → Type 0} (a : Anchor) {x : A} → P x → Agree P (gives_with_anchor a x) (gives_with_anchor a x)
agree-anchored a h = record { same = λ known. refl; kept = λ known. h }
