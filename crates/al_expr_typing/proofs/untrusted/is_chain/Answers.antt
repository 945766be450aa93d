use Rattle.std.proofs.Common.{◌≡◌, ◌≢◌, ◌≤◌, ℕ, List, [], ◌∷◌, false, length, take, drop, ◌-◌, map, refl, sym, arith, length-drop}
use Rattle.std.proofs.lemmas.Bool.{and_right}
use Rattle.std.proofs.lemmas.List.{length-map}
use Rattle.std.proofs.lemmas.Grind.{common_steps}
use Rattle.std.specs.Cmp.Lexicographic.{pointwise}
use Rattle.al_base.specs.Names.{same_name}
use Rattle.al_expr_typing.specs.Untrusted.{chain_part}
use Rattle.al_expr_grammar.specs.View.{step_of}
use Rattle.al_expr_typing.proofs.untrusted.is_chain.Goals as goal

different_lengths : (ps qs : List (List ℕ)) → length ps ≢ length qs → pointwise same_name ps qs ≡ false
different_lengths [] [] h = absurd (h refl)
different_lengths [] (q ∷ qs) h = refl
different_lengths (p ∷ ps) [] h = refl
different_lengths (p ∷ ps) (q ∷ qs) h = and_right (same_name p q) _ (different_lengths ps qs (λ e. h (omega arith)))

one_longer : {X : Type 0} (f : X → List ℕ) (xs : List X) (name : List ℕ) (qs : List (List ℕ)) → 1 ≤ length xs → length (drop 1 xs) ≢ length qs → pointwise same_name (map f xs) (name ∷ qs) ≡ false
one_longer f [] name qs h k = absurd (omega (arith, h))
one_longer f (x ∷ xs) name qs h k =
    let d = length-drop 1 (x ∷ xs) in
    let m : length (map f xs) ≡ length xs = simp length-map in
    and_right (same_name (f x) name) _ (different_lengths (map f xs) qs (λ e. k (omega arith)))

pub returns-then-rest-steps : goal.returns-then-rest-steps
returns-then-rest-steps c =
    let d : length (map chain_part (map step_of c.args.steps.now)) ≡ length c.args.steps.now = simp length-map in
    let n = length-drop 1 c.args.chain.now in
    let t : length (take (length c.args.chain.now - 1) (drop 1 c.args.chain.now)) ≡ length c.args.chain.now - 1 = grind (arith, common_steps) in
    sym (one_longer _ c.args.chain.now c.args.name.now (map chain_part (map step_of c.args.steps.now)) (omega (arith, c.in-len1-up.len_at_least)) (λ e. c.if-rest-steps.true (omega arith)))
