use Rattle.std.proofs.Common.{◌≡◌, [], arith, map, subst, sym, take}
use Rattle.std.proofs.lemmas.List.{take_all}
use Rattle.al_base.proofs.Growing.{begins_trans}
use Rattle.al_tree.specs.Values.{member_of}
use Rattle.al_types.specs.Puts.{put_all, put_new}
use Rattle.al_check_contexts.specs.Contexts.{job_field, jobs_type}
use Rattle.al_expr_types.specs.Tables.{objects_of}
use Rattle.al_check_contexts.specs.Made.{jobs_from, known_from}
use Rattle.al_check_objects.specs.Numbers.{Means}
use Rattle.al_check_objects.proofs.FieldLists.{put_next}
use Rattle.al_check_contexts.proofs.JobLemmas.{keeps_jobs_stay, same_there, shown_there}
use Rattle.al_check_objects.proofs.Numbers.{lists_stay, means_as}
use Rattle.al_check_contexts.proofs.jobs.JobTypes.jobs_type.Goals as goal

pub loop-i-preserved : goal.loop-i-preserved
loop-i-preserved c =
    let field = job_field (known_from c.args.basis.now) in
    let js = jobs_from c.args.basis.now in
    let members = c.as_slice-members.result.now in
    let i = c.loop-i.i in
    let x = c.index-members-i.result in
    let before = c.loop-i.types in
    let now = c.get.new.types in
    let sofar = put_all put_new [] (map field (map member_of (take i members))) in
    let there = same_there member_of members js i x c.as_slice-members.ensures c.loop-i-test.true c.index-members-i.is in
    let means = means_as now c.in_ok-ty.ty _ _ (sym (shown_there c.args.basis.now.outputs js i (member_of x) there)) c.in_ok-ty.ensures.made.ty in
    let lists = lists_stay now before c.loop-i.fields sofar c.in_ok-ty.ensures.made.kept c.loop-i.invariant.fields in
    record {
      fields = rw (put_next member_of field [] members i x c.loop-i-test.true c.index-members-i.is)
          (rw c.text.ensures at (c.in_ok-fields.ensures now sofar _ lists means));
      keeps = c.in_ok-ty.ensures.keeps;
      kept = begins_trans (objects_of c.args.types.now) (objects_of before) (objects_of now) c.loop-i.invariant.kept c.in_ok-ty.ensures.made.kept;
    }

pub returns-clause-made : goal.returns-clause-made
returns-clause-made c = record {
  ty = rw (take_all c.loop-i.i c.as_slice-members.result.now (omega (arith, c.loop-i-test.false)), c.as_slice-members.ensures)
      at (c.in_ok-ty-2.ensures.ty _ c.loop-i.invariant.fields);
  kept = begins_trans (objects_of c.args.types.now) (objects_of c.loop-i.types) (objects_of c.into_type.new.types) c.loop-i.invariant.kept
      c.in_ok-ty-2.ensures.kept;
}

pub returns-clause-keeps : goal.returns-clause-keeps
returns-clause-keeps c =
    let now = c.into_type.new.types in
    let js = jobs_from c.args.basis.now in
    let kept = keeps_jobs_stay now c.loop-i.types c.args.basis.now.outputs js c.loop-i.self c.in_ok-ty-2.ensures.kept c.loop-i.invariant.keeps in
    let means = rw (take_all c.loop-i.i c.as_slice-members.result.now (omega (arith, c.loop-i-test.false)), c.as_slice-members.ensures)
    at (c.in_ok-ty-2.ensures.ty _ c.loop-i.invariant.fields) in
    record {
      calls = kept.calls;
      shown = kept.shown;
      bare = kept.bare;
      all = λ t e. let z : c.in_ok-ty-2.ty ≡ t = cc in subst (λ u. Means now u (jobs_type (known_from c.args.basis.now) js)) z means;
    }
