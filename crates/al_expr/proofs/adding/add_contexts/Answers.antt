use Rattle.std.proofs.Common.{◌≡◌, true}
use Rattle.al_base.proofs.Growing.{begins_trans}
use Rattle.al_expr_names.specs.declared.names.Context.{Context}
use Rattle.al_expr_types.specs.Tables.{is_known, type_at}
use Rattle.al_expr_typing.specs.Scopes.{context_number}
use Rattle.al_expr_typing.specs.declared.scope.ContextTypes as numbers
use Rattle.al_expr.specs.Scopes.{type_of_context}
use Rattle.al_expr.proofs.Contexts.{each_context, stands_still}
use Rattle.al_expr.proofs.adding.add_contexts.Goals as goal

pub returns : goal.returns
returns c =
    let new = c.add-12.new.types in
    let ns : numbers.ContextTypes = record {
      github = c.in_ok-add.field-0;
      env = c.in_ok-add-2.field-0;
      vars = c.in_ok-add-3.field-0;
      secrets = c.in_ok-add-4.field-0;
      runner = c.in_ok-add-5.field-0;
      job = c.in_ok-add-6.field-0;
      strategy = c.in_ok-add-7.field-0;
      needs = c.in_ok-add-8.field-0;
      jobs = c.in_ok-add-9.field-0;
      steps = c.in_ok-add-10.field-0;
      matrix = c.in_ok-add-11.field-0;
      inputs = c.in_ok-add-12.field-0;
    } in
    let b10 = c.in_ok-add-12.ensures.kept in
    let b9 = begins_trans _ _ _ c.in_ok-add-11.ensures.kept b10 in
    let b8 = begins_trans _ _ _ c.in_ok-add-10.ensures.kept b9 in
    let b7 = begins_trans _ _ _ c.in_ok-add-9.ensures.kept b8 in
    let b6 = begins_trans _ _ _ c.in_ok-add-8.ensures.kept b7 in
    let b5 = begins_trans _ _ _ c.in_ok-add-7.ensures.kept b6 in
    let b4 = begins_trans _ _ _ c.in_ok-add-6.ensures.kept b5 in
    let b3 = begins_trans _ _ _ c.in_ok-add-5.ensures.kept b4 in
    let b2 = begins_trans _ _ _ c.in_ok-add-4.ensures.kept b3 in
    let b1 = begins_trans _ _ _ c.in_ok-add-3.ensures.kept b2 in
    let b0 = begins_trans _ _ _ c.in_ok-add-2.ensures.kept b1 in
    let each = each_context (λ (x : Context). (is_known new (context_number ns x) ≡ true) × (type_at new (context_number ns x) ≡ type_of_context c.args.contexts.now x))
    (stands_still new c.add.new.types c.in_ok-add.field-0 _ b0 c.in_ok-add.ensures.known c.in_ok-add.ensures.ty)
    (stands_still new c.add-2.new.types c.in_ok-add-2.field-0 _ b1 c.in_ok-add-2.ensures.known c.in_ok-add-2.ensures.ty)
    (stands_still new c.add-3.new.types c.in_ok-add-3.field-0 _ b2 c.in_ok-add-3.ensures.known c.in_ok-add-3.ensures.ty)
    (stands_still new c.add-4.new.types c.in_ok-add-4.field-0 _ b3 c.in_ok-add-4.ensures.known c.in_ok-add-4.ensures.ty)
    (stands_still new c.add-5.new.types c.in_ok-add-5.field-0 _ b4 c.in_ok-add-5.ensures.known c.in_ok-add-5.ensures.ty)
    (stands_still new c.add-6.new.types c.in_ok-add-6.field-0 _ b5 c.in_ok-add-6.ensures.known c.in_ok-add-6.ensures.ty)
    (stands_still new c.add-7.new.types c.in_ok-add-7.field-0 _ b6 c.in_ok-add-7.ensures.known c.in_ok-add-7.ensures.ty)
    (stands_still new c.add-8.new.types c.in_ok-add-8.field-0 _ b7 c.in_ok-add-8.ensures.known c.in_ok-add-8.ensures.ty)
    (stands_still new c.add-9.new.types c.in_ok-add-9.field-0 _ b8 c.in_ok-add-9.ensures.known c.in_ok-add-9.ensures.ty)
    (stands_still new c.add-10.new.types c.in_ok-add-10.field-0 _ b9 c.in_ok-add-10.ensures.known c.in_ok-add-10.ensures.ty)
    (stands_still new c.add-11.new.types c.in_ok-add-11.field-0 _ b10 c.in_ok-add-11.ensures.known c.in_ok-add-11.ensures.ty)
    (c.in_ok-add-12.ensures.known, c.in_ok-add-12.ensures.ty) in
    record { known = λ x. (each x).0; are = λ x. (each x).1 }
