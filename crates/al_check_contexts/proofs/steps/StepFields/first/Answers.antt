use Rattle.std.proofs.Common.{◌<◌, ◌∙◌, arith, length, sym}
use Rattle.std.proofs.lemmas.Bool.Decides.{nat_tests}
use Rattle.std.proofs.lemmas.Grind.{common_steps}
use Rattle.std.proofs.lemmas.List.{get_or_default}
use Rattle.std.proofs.lemmas.Result.{on_ok_weaker}
use Rattle.al_expr_types.proofs.Returned.{both_ok}
use Rattle.al_check_contexts.proofs.StepLemmas.{first_means, prefixes_stay, prefixes_with, steps_stay, steps_with}
use Rattle.al_check_contexts.proofs.steps.StepFields.first.Goals as goal

pub returns-clause-ty : goal.returns-clause-ty
returns-clause-ty c =
    let s = c.args.self.now in
    let n = c.index.result.now in
    let lt : c.args.count < length s.counts.items = grind (arith, common_steps, nat_tests) in
    both_ok c.first.result c.first.ensures.ty c.first.ensures.known
    (λ ty is there known o h.
    first_means c.first.new.types c.args.types.now known o s c.args.count n ty lt
    (c.index.ensures ∙ sym (get_or_default s.counts.items c.args.count 0 n lt)) there is h)

pub returns-clause-steps : goal.returns-clause-steps
returns-clause-steps c =
    let s = c.args.self.now in
    on_ok_weaker c.first.result
    (λ base known o h.
    steps_with c.first.new.types known o s c.first.new.self c.first.ensures.map
    (steps_stay c.first.new.types c.args.types.now known o s c.first.ensures.kept c.requires.prefixes h))
    c.first.ensures.base

pub returns-clause-prefixes : goal.returns-clause-prefixes
returns-clause-prefixes c =
    let s = c.args.self.now in
    on_ok_weaker c.first.result
    (λ base.
    prefixes_with c.first.new.types s c.first.new.self c.first.ensures.map base
    (prefixes_stay c.first.new.types c.args.types.now s c.first.ensures.kept c.requires.prefixes))
    c.first.ensures.base
