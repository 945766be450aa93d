use Rattle.al_base.proofs.Growing.{begins_trans}
use Rattle.al_expr_types.specs.Tables.{objects_of}
use Rattle.al_check_contexts.specs.Lookups.{called_at}
use Rattle.al_check_contexts.proofs.Kept.{keeps_stays}
use Rattle.al_check_contexts.proofs.jobs.called_type.Goals as goal

pub shown_with-requires : goal.shown_with-requires
shown_with-requires c = c.in_ok-outputs.ensures.ty.known

pub returns : goal.returns
returns c =
    let entry = c.args.types.now in
    let now = c.shown_with.new.types in
    let at = called_at c.args.basis.now.outputs in
    let kept = begins_trans (objects_of entry) (objects_of c.outputs_type.new.types) (objects_of now) c.in_ok-outputs.ensures.kept c.in_ok-ty.ensures.kept in
    let means = rw (c.in_ok-outputs.ensures.ty.is, c.list.ensures) at c.in_ok-ty.ensures.ty in
    record { made = record { ty = means; kept = kept }; keeps = c.set.ensures now at (keeps_stays now entry at c.args.made.now kept c.requires) means }
