use Rattle.std.proofs.Common.{◌≡◌, ◌<◌, length, false, ℕ, List, [], ◌∷◌, ◌++◌, Bool, get_or, map, drop, refl, sym, ap, ◌∙◌, append-nil, arith, true}
use Rattle.std.proofs.lemmas.List.{at_drop_all, get_or_default}
use Rattle.al_expr_grammar.proofs.RestItems.{rest_item}
use Rattle.al_expr_types.specs.declared.ty.Base.TheVariants as base
use Rattle.al_expr_types.specs.declared.ty.Scalar.TheVariants as scalar
use Rattle.al_expr_typing.specs.Arguments.{argument_in}
use Rattle.al_expr_typing.specs.declared.calls.Argument.{Argument}
use Rattle.al_expr_typing.specs.Meaning.{unused_arguments}
use Rattle.al_expr_typing.proofs.calls.check_used.Goals as goal

unused-nil : (n : ℕ) (used : List Bool) → unused_arguments n used [] ≡ []
unused-nil n [] = refl
unused-nil n (u ∷ us) = refl

pub loop-index-preserved-then-used-index : goal.loop-index-preserved-then-used-index
loop-index-preserved-then-used-index c =
    let as' = c.args.arguments.now in
    let i = c.loop-index.index in
    let none : Argument = record { ty = record { arrays = 0; of = base.Scalar scalar.Any }; span = record { start = 0; end = 0 } } in
    let a : Argument = get_or as' i none in
    let r = rest_item as' i a c.loop-index-test.true (get_or_default as' i none a c.loop-index-test.true) in
    let lt : i < length c.args.used.now = omega (arith, c.if-index-used.false) in
    let u = rest_item c.args.used.now i true lt (sym c.if-used-index.true ∙ get_or_default c.args.used.now i false true lt) in
    λ ms. rw (u, r) at (c.loop-index.invariant ms)

pub returns : goal.returns
returns c = λ ms.
    let now = c.loop-index.faults in
    let used = drop c.loop-index.index c.args.used.now in
    let d = at_drop_all (λ l. now ++ unused_arguments c.loop-index.index used (map (argument_in ms) l)) c.args.arguments.now c.loop-index.index (omega arith) in
    sym (append-nil now) ∙ ap (λ l. now ++ l) (sym (unused-nil c.loop-index.index used)) ∙ sym d ∙ c.loop-index.invariant ms
