use Rattle.std.proofs.Common.{◌∙◌, false, sym, true}
use Rattle.std.proofs.lemmas.Result.{on_ok_weaker}
use Rattle.al_base.proofs.Growing.{begins_trans}
use Rattle.al_expr_types.proofs.Returned.{begins_ok}
use Rattle.al_tree.specs.Values.{member_of}
use Rattle.al_check_contexts.specs.Lookups.{called_at}
use Rattle.al_check_contexts.specs.Made.{known_from}
use Rattle.al_check_contexts.proofs.JobLemmas.{keeps_bare_stays, shown_by}
use Rattle.al_check_contexts.proofs.Kept.{keeps_stays}
use Rattle.al_check_contexts.proofs.jobs.JobTypes.type_of.Goals as goal

pub returns-then-has_value-clause-made : goal.returns-then-has_value-clause-made
returns-then-has_value-clause-made c =
    rw (c.position-position.ensures, c.text.ensures, shown_by (known_from c.args.basis.now) (member_of c.args.job) true (sym c.has_value.ensures ∙ c.if-has_value.true))
    at c.called_type.ensures.made

pub returns-then-has_value-clause-bare : goal.returns-then-has_value-clause-bare
returns-then-has_value-clause-bare c =
    on_ok_weaker c.called_type.result (λ kept. keeps_bare_stays c.called_type.new.types c.args.types.now c.args.self.now.bare kept c.requires.bare)
    c.called_type.ensures.made.kept

pub shown_with-requires : goal.shown_with-requires
shown_with-requires c = c.in_ok-outputs.ensures.ty.known

pub returns-clause-made : goal.returns-clause-made
returns-clause-made c =
    let own = shown_by (known_from c.args.basis.now) (member_of c.args.job) false (sym c.has_value.ensures ∙ c.if-has_value.false) in
    record {
      ty = rw (c.in_ok-outputs.ensures.ty.is, c.as_slice.ensures.value, c.in_ok-entries.ensures, own) at c.shown_with.ensures.ty;
      kept = begins_ok c.shown_with.result _ _ _ c.in_ok-outputs.ensures.kept c.shown_with.ensures.kept;
    }

pub returns-then-len-eq0-clause-keeps : goal.returns-then-len-eq0-clause-keeps
returns-then-len-eq0-clause-keeps c =
    on_ok_weaker c.bare_type.result
    (λ kept. keeps_stays c.bare_type.new.types c.args.types.now (called_at c.args.basis.now.outputs) c.args.self.now.calls kept c.requires.calls)
    c.bare_type.ensures.made.kept

pub returns-clause-keeps : goal.returns-clause-keeps
returns-clause-keeps c =
    on_ok_weaker c.shown_with.result
    (λ kept. keeps_stays c.shown_with.new.types c.args.types.now (called_at c.args.basis.now.outputs) c.args.self.now.calls
    (begins_trans _ _ _ c.in_ok-outputs.ensures.kept kept) c.requires.calls)
    c.shown_with.ensures.kept

pub returns-clause-bare : goal.returns-clause-bare
returns-clause-bare c =
    on_ok_weaker c.shown_with.result
    (λ kept. keeps_bare_stays c.shown_with.new.types c.args.types.now c.args.self.now.bare (begins_trans _ _ _ c.in_ok-outputs.ensures.kept kept) c.requires.bare)
    c.shown_with.ensures.kept
