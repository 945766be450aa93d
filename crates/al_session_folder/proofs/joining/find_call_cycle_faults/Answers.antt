use Rattle.std.proofs.Common.{arith, subst, ℕ}
use Rattle.al_session_folder.specs.Printing.{AreNumbered, IsCycleFaults}
use Rattle.al_session_folder.proofs.ListedFaults.{numbered_more, numbered_none}
use Rattle.al_session_folder.proofs.joining.find_call_cycle_faults.Goals as goal

pub loop-index-init : goal.loop-index-init
loop-index-init g c = numbered_none (IsCycleFaults g.L.Lint.meaning c.args.linked.now) _ c.in_ok-all.ensures.items

pub loop-index-preserved : goal.loop-index-preserved
loop-index-preserved g c =
    numbered_more (IsCycleFaults g.L.Lint.meaning c.args.linked.now) c.loop-index.index c.loop-index.all.items c.push.new.self.items _ c.loop-index.invariant
    (λ p b at. c.in_ok-call_cycle_faults.ensures p b at)
    c.in_ok-push.ensures.items

pub returns : goal.returns
returns g c =
    let P : ℕ → Type 0 = λ n. AreNumbered (IsCycleFaults g.L.Lint.meaning c.args.linked.now) n c.loop-index.all.items in
    subst P (omega (arith, c.count-index-end.ensures, c.loop-index-test.false)) c.loop-index.invariant
