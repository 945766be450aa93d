use Rattle.al_base.proofs.Growing.{begins_trans}
use Rattle.al_check_contexts.proofs.jobs.bare_type.Goals as goal

pub shown_with-requires : goal.shown_with-requires
shown_with-requires c = c.in_ok-outputs.ensures.ty.known

pub returns-clause-made : goal.returns-clause-made
returns-clause-made c = record {
  ty = rw c.in_ok-outputs.ensures.ty.is at c.in_ok-ty.ensures.ty;
  kept = begins_trans _ _ _ c.in_ok-outputs.ensures.kept c.in_ok-ty.ensures.kept;
}
