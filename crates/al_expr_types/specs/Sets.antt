-- Types form a set, so that an equation of types can be kept as a fact.
use Rattle.std.proofs.Common.{◌≡◌, ℕ, List, refl, ap, subst}
use mathlib.Core.HLevel.{⊥_prop, Unit-prop, Π_prop, ×₃_prop, collapsible→set}
use Rattle.al_types.specs.Types.{Type', Any, Null, Number, Bool', String, ArrayOf, ObjectOf}
use Rattle.al_types.specs.Types.{Optional, Absent, Present}

abbrev mutual
  same : Type' → Type' → Type 0
  same Any Any = Unit {0}
  same Null Null = Unit {0}
  same Number Number = Unit {0}
  same Bool' Bool' = Unit {0}
  same String String = Unit {0}
  same (ArrayOf a) (ArrayOf b) = same a b
  same (ObjectOf f r x) (ObjectOf g s y) =
      ((n : List ℕ) → same_optional (f n) (g n)) × same_optional r s × same_optional x y
  same a b = ⊥

  same_optional : Optional → Optional → Type 0
  same_optional Absent Absent = Unit {0}
  same_optional (Present a) (Present b) = same a b
  same_optional a b = ⊥

mutual
  same-prop : (a b : Type') → IsProp (same a b)
  same-prop Any Any = Unit-prop
  same-prop Null Null = Unit-prop
  same-prop Number Number = Unit-prop
  same-prop Bool' Bool' = Unit-prop
  same-prop String String = Unit-prop
  same-prop (ArrayOf a) (ArrayOf b) = same-prop a b
  same-prop (ObjectOf f r x) (ObjectOf g s y) =
      ×₃_prop (Π_prop (λ n. same_optional-prop (f n) (g n))) (same_optional-prop r s)
      (same_optional-prop x y)
  same-prop a b = ⊥_prop

  same_optional-prop : (a b : Optional) → IsProp (same_optional a b)
  same_optional-prop Absent Absent = Unit-prop
  same_optional-prop (Present a) (Present b) = same-prop a b
  same_optional-prop a b = ⊥_prop

mutual
  itself : (a : Type') → same a a
  itself Any = tt
  itself Null = tt
  itself Number = tt
  itself Bool' = tt
  itself String = tt
  itself (ArrayOf a) = itself a
  itself (ObjectOf f r x) = (λ n. itself_optional (f n), itself_optional r, itself_optional x)

  itself_optional : (a : Optional) → same_optional a a
  itself_optional Absent = tt
  itself_optional (Present a) = itself a

mutual
  equal : (a b : Type') → same a b → a ≡ b
  equal Any Any h = refl
  equal Null Null h = refl
  equal Number Number h = refl
  equal Bool' Bool' h = refl
  equal String String h = refl
  equal (ArrayOf a) (ArrayOf b) h = ap ArrayOf (equal a b h)
  equal (ObjectOf f r x) (ObjectOf g s y) h =
      λ d. ObjectOf (λ n. equal_optional (f n) (g n) (h.0 n) d) (equal_optional r s h.1 d)
      (equal_optional x y h.2 d)
  equal a b h = absurd h

  equal_optional : (a b : Optional) → same_optional a b → a ≡ b
  equal_optional Absent Absent h = refl
  equal_optional (Present a) (Present b) h = ap Present (equal a b h)
  equal_optional a b h = absurd h

pub Optional-set : IsSet Optional
Optional-set =
    collapsible→set (λ (a b : Optional) (e : a ≡ b).
    equal_optional a b (subst (same_optional a) e (itself_optional a)))
    (λ a b p q. ap (equal_optional a b)
    (same_optional-prop a b (subst (same_optional a) p (itself_optional a))
    (subst (same_optional a) q (itself_optional a))))
