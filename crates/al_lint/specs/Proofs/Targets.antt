-- Comparing calls decides whether they are equal.
use Rattle.std.specs.Prelude.{◌≡◌, true, ◌&&◌, bytes_eq}
use Rattle.std.specs.Bool.{Decides}
use Rattle.std.specs.Cmp.{IsPartialEquivalence, decided, partial_equiv_from_equiv}
use Rattle.std.proofs.Common.{◌∙◌, ap, refl, subst}
use Rattle.std.proofs.lemmas.Bool.{and_parts}
use Rattle.std.proofs.lemmas.Slice.Eq.{bytes_eq-Decides}
use Rattle.al_lint.specs.Targets.{is_same_target}
use Rattle.al_lint.specs.declared.lint.Target.{Target}
use Rattle.al_lint.specs.declared.lint.Target.TheVariants.{FirstOf, Only}

same_target : (t u : Target) → is_same_target t u ≡ true → t ≡ u
same_target (Only p) (Only q) h = ap Only ((bytes_eq-Decides p q).0 h)
same_target (FirstOf p q) (FirstOf r s) h =
    let parts = and_parts (bytes_eq p r) (bytes_eq q s) h in
    ap (λ x. FirstOf x q) ((bytes_eq-Decides p r).0 parts.0)
    ∙ ap (FirstOf r) ((bytes_eq-Decides q s).0 parts.1)
same_target _ _ h = cc

same_itself : (t : Target) → is_same_target t t ≡ true
same_itself (Only p) = (bytes_eq-Decides p p).1 refl
same_itself (FirstOf p q) =
    ap (λ b. b && bytes_eq q q) ((bytes_eq-Decides p p).1 refl) ∙ (bytes_eq-Decides q q).1 refl

pub targets_decide : (t u : Target) → Decides (is_same_target t u) (t ≡ u)
targets_decide t u =
    (same_target t u, λ e. subst (λ (v : Target). is_same_target t v ≡ true) e (same_itself t))

pub target_laws : IsPartialEquivalence is_same_target
target_laws = partial_equiv_from_equiv (decided is_same_target targets_decide)
