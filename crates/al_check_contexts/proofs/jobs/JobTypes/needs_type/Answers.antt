use Rattle.std.proofs.Common.{◌∙◌, [], arith, sym}
use Rattle.std.proofs.lemmas.List.{take_all}
use Rattle.std.proofs.lemmas.Result.{IfOk-weaker, on_ok_weaker}
use Rattle.al_base.proofs.Growing.{begins_trans}
use Rattle.al_expr_types.proofs.Returned.{begins_ok}
use Rattle.al_scalar.specs.Scalar.{Scalar, text_of}
use Rattle.al_base.specs.Names.{same_name}
use Rattle.al_base.proofs.NamePlaces.{found_within}
use Rattle.al_tree.specs.Keys.{key_of}
use Rattle.al_tree.specs.Values.{member_of}
use Rattle.al_check_contexts.specs.Contexts.{dependency}
use Rattle.al_expr_types.specs.Tables.{objects_of}
use Rattle.al_check_contexts.specs.Made.{jobs_from, known_from}
use Rattle.al_check_objects.proofs.FieldLists.{put_if_next}
use Rattle.al_check_contexts.proofs.JobLemmas.{dependency_at, keeps_jobs_stay, no_dependency, shown_there}
use Rattle.al_check_objects.proofs.Numbers.{lists_stay, means_as}
use Rattle.al_check_contexts.proofs.jobs.JobTypes.needs_type.Goals as goal

pub get-requires-clause-inside : goal.get-requires-clause-inside
get-requires-clause-inside c =
    found_within member_of (λ j. same_name (key_of j) c.text.result.now) c.args.basis.now.jobs.members.items c.in-Some.needed (sym c.in_ok-needed.ensures ∙ c.in-Some.is)

pub job_at-requires : goal.job_at-requires
job_at-requires c =
    found_within member_of (λ j. same_name (key_of j) c.text.result.now) c.args.basis.now.jobs.members.items c.in-Some.needed (sym c.in_ok-needed.ensures ∙ c.in-Some.is)

pub loop-name-preserved-in_default : goal.loop-name-preserved-in_default
loop-name-preserved-in_default c =
    let known = known_from c.args.basis.now in
    let js = jobs_from c.args.basis.now in
    let field = λ (s : Scalar). dependency known js (text_of s) in
    let was = c.loop-name.invariant in
    record {
      fields = rw (put_if_next (λ s. s.now) field [] c.as_slice-name-items.result.now c.loop-name.name-index c.name-item.result c.loop-name-test.true c.name-item.is)
          (rw (← c.text.ensures, no_dependency known js c.text.result.now (sym c.in_ok-needed.ensures ∙ c.in_default.is)) was.fields);
      keeps = was.keeps;
      kept = was.kept;
    }

pub loop-name-preserved : goal.loop-name-preserved
loop-name-preserved c =
    let known = known_from c.args.basis.now in
    let js = jobs_from c.args.basis.now in
    let field = λ (s : Scalar). dependency known js (text_of s) in
    let now = c.get.new.types in
    let before = c.loop-name.types in
    let was = c.loop-name.invariant in
    let made = c.in_ok-ty.ensures.made in
    let j = member_of c.job_at.result in
    let means = means_as now c.in_ok-ty.ty _ _ (sym (shown_there c.args.basis.now.outputs js c.in-Some.needed j c.job_at.ensures)) made.ty in
    let lists = lists_stay now before c.loop-name.fields _ made.kept was.fields in
    let found = dependency_at known js c.text.result.now c.in-Some.needed j (sym c.in_ok-needed.ensures ∙ c.in-Some.is) c.job_at.ensures in
    record {
      fields = rw (put_if_next (λ s. s.now) field [] c.as_slice-name-items.result.now c.loop-name.name-index c.name-item.result c.loop-name-test.true c.name-item.is)
          (rw (← c.text.ensures, found) (rw c.text-in-loop-name.ensures at (c.in_ok-fields.ensures now _ _ lists means)));
      keeps = c.in_ok-ty.ensures.keeps;
      kept = begins_trans (objects_of c.args.types.now) (objects_of before) (objects_of now) was.kept made.kept;
    }

pub returns-clause-made : goal.returns-clause-made
returns-clause-made c =
    let all = take_all c.loop-name.name-index c.as_slice-name-items.result.now (omega (arith, c.loop-name-test.false)) in
    record {
      ty = IfOk-weaker c.into_type.result _ _
          (λ ty means. rw (all, c.as_slice-name-items.ensures.value, c.in_ok-names.ensures) at (means _ c.loop-name.invariant.fields)) c.into_type.ensures.ty;
      kept = begins_ok c.into_type.result (objects_of c.args.types.now) (objects_of c.loop-name.types) (objects_of c.into_type.new.types)
          c.loop-name.invariant.kept c.into_type.ensures.kept;
    }

pub returns-clause-keeps : goal.returns-clause-keeps
returns-clause-keeps c =
    on_ok_weaker c.into_type.result
    (λ kept. keeps_jobs_stay c.into_type.new.types c.loop-name.types c.args.basis.now.outputs (jobs_from c.args.basis.now) c.loop-name.self kept
    c.loop-name.invariant.keeps)
    c.into_type.ensures.kept
