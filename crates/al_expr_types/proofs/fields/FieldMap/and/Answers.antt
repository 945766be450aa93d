use Rattle.std.proofs.Common.{◌∙◌, ap}
use Rattle.std.specs.Prelude.{is_some}
use Rattle.al_expr_types.specs.Names.{names_in}
use Rattle.al_expr_types.specs.Types.{named_types}
use Rattle.al_expr_types.proofs.FieldMaps.{new_field, old_field}
use Rattle.al_expr_types.proofs.fields.FieldMap.and.Goals as goal

pub returns-then-is_some-clause-fields : goal.returns-then-is_some-clause-fields
returns-then-is_some-clause-fields c = λ ms.
    let s = c.args.self in
    old_field ms (names_in s.names) s.types.items c.args.name.now c.args.ty s.even (c.if-is_some.ensures ∙ ap is_some c.in_ok-position.ensures)

pub returns-clause-fields : goal.returns-clause-fields
returns-clause-fields c = λ ms.
    let s = c.args.self in
    (λ d. named_types ms (c.in_ok-names.ensures d) (c.in_ok-push.ensures.items d))
    ∙ new_field ms (names_in s.names) s.types.items c.args.name.now c.args.ty s.even (c.if-is_some.ensures ∙ ap is_some c.in_ok-position.ensures)
