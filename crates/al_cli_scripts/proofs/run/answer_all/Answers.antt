use Rattle.std.proofs.Common.{length, drop, arith, subst, ap, ◌∙◌, codes}
use Rattle.std.proofs.lemmas.Grind.{common_steps}
use Rattle.std.proofs.KnownBytes.{Appends-trans}
use Rattle.std.proofs.lemmas.Result.{err_from_is_err_and}
use Rattle.al_cli_scripts.specs.Script.{IsWrong}
use Rattle.al_cli_scripts.specs.Private.Next.{meaning}
use Rattle.al_cli_scripts.proofs.Answering.{rest_is, Answering-next, IsStuck-in_reply, IsStuck-in_bad}
use Rattle.al_cli_scripts.proofs.run.answer_all.Goals as goal

pub returns-in_err-answer-in-Whole-clause-err : goal.returns-in_err-answer-in-Whole-clause-err
returns-in_err-answer-in-Whole-clause-err g c =
    let p = err_from_is_err_and c.from_residual.result c.from_residual.ensures.1 in
    rw p.1 (IsStuck-in_reply _ c.loop-done.invariant.served (meaning c.in-Whole.command) c.in-Whole.count c.in-Whole.ensures c.in_err-answer-in-Whole.ensures.err)

pub loop-done-preserved : goal.loop-done-preserved
loop-done-preserved g c = record {
  within = let h = c.in-Whole.ensures.within in let e = ap length (rest_is c.args.waiting.now c.loop-done.done) in grind (arith, common_steps);
  served = rw c.in_ok-answer-in-Whole.ensures.after (Answering-next _ c.loop-done.invariant.served (meaning c.in-Whole.command) c.in-Whole.count c.in-Whole.ensures c.in_ok-answer-in-Whole.ensures.ok);
  unfailed = c.in_ok-answer-in-Whole.ensures.failures.answered ∙ c.loop-done.invariant.unfailed;
}

pub returns-in_err-write_all-in-Wrong-clause-err : goal.returns-in_err-write_all-in-Wrong-clause-err
returns-in_err-write_all-in-Wrong-clause-err g c =
    let p = err_from_is_err_and c.from_residual-in_err-write_all-in-Wrong.result c.from_residual-in_err-write_all-in-Wrong.ensures.1 in
    rw p.1 (IsStuck-in_bad _ c.loop-done.invariant.served c.in-Wrong.ensures c.in_err-write_all-in-Wrong.ensures.prefix)

pub returns-in-Wrong-clause-ok : goal.returns-in-Wrong-clause-ok
returns-in-Wrong-clause-ok g c =
    let s = c.loop-done.invariant.served in (
      s.replies,
      drop c.loop-done.done c.args.waiting.now,
      s.served,
      subst IsWrong (rest_is c.args.waiting.now c.loop-done.done) c.in-Wrong.ensures,
      Appends-trans _ _ _ s.replies (codes "bad command\n") s.written c.in_ok-write_all-in-Wrong.ensures.all,
    )
