use Rattle.std.proofs.Common.{◌≡◌, ◌<◌, ℕ, Bool, List, [], ◌∷◌, length, arith, rules, tests}
use Rattle.std.specs.List.{list_all}
use Rattle.std.proofs.lemmas.Grind.{common_steps}
use Rattle.std.proofs.lemmas.Iterator.{YieldsList-from_slice}
use Rattle.std.proofs.lemmas.Iterator.Search.{all_from_yields_List}
use Rattle.al_scalar.specs.declared.class.Base.{Base}
use Rattle.al_scalar.specs.Class.{are_digits, is_digit_in}
use Rattle.al_scalar.proofs.class.are_digits.Goals as goal

some_digits : (base : Base) (r : Bool) (bs : List ℕ) → 0 < length bs → r ≡ list_all (is_digit_in base) bs → r ≡ are_digits base bs
some_digits base r [] h e = absurd (omega (arith, h))
some_digits base r (b ∷ bs) h e = e

pub returns-then-not-is_empty : goal.returns-then-not-is_empty
returns-then-not-is_empty c =
    let bs = c.args.text.now in
    some_digits c.args.base c.all.result bs (grind (arith, common_steps))
    (all_from_yields_List (is_digit_in c.args.base) _ _ c.all.result c.all.ensures.ran (YieldsList-from_slice bs cc) (λ x b q k. search (rules, tests)))
