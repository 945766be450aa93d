-- The code's test for equal labels.
use Rattle.std.proofs.Common.{◌≡◌, ℕ, Bool, true, false, Option, Some, None, refl, sym, ◌∙◌, ap, arith, nat_eq}
use Rattle.std.specs.Option.{unwrap_or, option_eq}
use Rattle.std.proofs.lemmas.Bool.Decides.{nat_tests}

-- deciding whether two labels are equal
pub labels_same : (a b : Option ℕ) (r : Bool) → r ≡ option_eq nat_eq a b → (r ≡ true → a ≡ b) × (a ≡ b → r ≡ true)
labels_same None None r e = (λ h. refl, λ h. e)
labels_same None (Some y) r e = (λ h. absurd (let wrong : false ≡ true = sym e ∙ h in cc), λ h. absurd (wrong h))
  where
    wrong : None ≡ Some y → ⊥
    wrong h = cc
labels_same (Some x) None r e = (λ h. absurd (let wrong : false ≡ true = sym e ∙ h in cc), λ h. absurd (wrong h))
  where
    wrong : Some x ≡ None → ⊥
    wrong h = cc
labels_same (Some x) (Some y) r e = (
  λ h. let t : nat_eq x y ≡ true = sym e ∙ h in let same : x ≡ y = grind (arith, nat_tests) in ap Some same,
  λ h. let same : x ≡ y = ap (λ o. unwrap_or o x) h in let t : nat_eq x y ≡ true = grind (arith, nat_tests) in e ∙ t,
)
