use Rattle.std.proofs.Common.{◌≡◌, List, [], ◌∷◌, None, ◌∙◌, ap, arith, length, map, refl}
use Rattle.al_surface.proofs.linters.finds_empty.Goals as goal

none : {X : Type 0} (xs : List X) → length xs ≡ 0 → [] ≡ xs
none [] e = refl
none (x ∷ xs) e = absurd (omega (arith, e))

pub check-requires-clause-answers : goal.check-requires-clause-answers
check-requires-clause-answers c =
    let len : length c.in_ok-calls.calls.items ≡ 0 = omega (arith, c.len.ensures, c.if-len-ne0.false) in
    record {
      answer = λ t. None;
      are = ap (map (λ t. None)) (none c.in_ok-calls.calls.items len ∙ c.in_ok-calls.ensures c.args.bytes.now c.in_ok-unit.ensures.unit);
    }
