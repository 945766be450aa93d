use Rattle.std.proofs.Common.{◌≡◌, ◌++◌, get_or, length, map, sym, true, ap, ◌∙◌, append-nil, arith}
use Rattle.std.proofs.lemmas.List.{at_drop_all, get_or_default, length-map}
use Rattle.al_expr_grammar.proofs.RestItems.{rest_item}
use Rattle.al_expr_names.specs.Signatures.{takes_count}
use Rattle.al_expr_types.specs.declared.ty.Base.TheVariants as base
use Rattle.al_expr_types.specs.declared.ty.Scalar.TheVariants as scalar
use Rattle.al_expr_typing.specs.Arguments.{argument_in}
use Rattle.al_expr_typing.specs.declared.calls.Argument.{Argument}
use Rattle.al_expr_typing.specs.Meaning.{wrong_arguments}
use Rattle.al_expr_typing.proofs.calls.check_arguments.Goals as goal

pub loop-index-preserved-then-accepts : goal.loop-index-preserved-then-accepts
loop-index-preserved-then-accepts c =
    let as' = c.args.arguments.now in
    let none : Argument = record { ty = record { arrays = 0; of = base.Scalar scalar.Any }; span = record { start = 0; end = 0 } } in
    let a : Argument = get_or as' c.loop-index.index none in
    let r = rest_item as' c.loop-index.index a c.loop-index-test.true (get_or_default as' c.loop-index.index none a c.loop-index-test.true) in
    λ ms.
    let e = rw c.parameter_at.ensures at (c.accepts.ensures ms) in
    rw (r, ← e, c.if-accepts.true) at (c.loop-index.invariant ms)

pub returns : goal.returns
returns c = λ ms.
    let now = c.loop-index.faults in
    let as' = c.args.arguments.now in
    let takes : takes_count c.args.parameters (length (map (argument_in ms) as')) ≡ true =
    ap (takes_count c.args.parameters) (length-map as' (argument_in ms)) ∙ sym c.takes.ensures ∙ c.if-not-takes.false in
    let d = at_drop_all (λ l. now ++ wrong_arguments c.args.name.text.now c.args.parameters c.loop-index.index (map (argument_in ms) l)) as' c.loop-index.index (omega arith) in
    rw takes (sym (append-nil now) ∙ sym d ∙ c.loop-index.invariant ms)
