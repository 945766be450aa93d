use Rattle.std.proofs.Common.{◌∙◌, ap, sym, not, Bool, length, arith, List, ℕ}
use Rattle.std.specs.Bool.{◌==◌}
use Rattle.std.specs.List.{enumerate_from, list_any}
use Rattle.std.proofs.lemmas.List.{take_all}
use Rattle.std.proofs.lemmas.List.FromFn.{length-enumerate_from}
use Rattle.al_session_folder.specs.Cycles.{call_cycle_faults}
use Rattle.al_session_folder.proofs.CallCycles.{entry_there, numbered}
use Rattle.al_session_folder.proofs.Reports.{any_found, any_none}
use Rattle.al_session_folder.proofs.joining.has_call_cycles.Goals as goal

pub returns-then-has_call_on_cycle : goal.returns-then-has_call_on_cycle
returns-then-has_call_on_cycle g c =
    let F = c.args.linked.now in
    let T : ℕ × (List ℕ × List ℕ) → Bool = λ x. not (length (call_cycle_faults g.L.Lint.meaning F x.0 x.1.0 x.1.1) == 0) in
    let x = entry_there F c.loop-index.index (omega (arith, c.count-index-end.ensures, c.loop-index-test.true)) in
    sym (any_found T (enumerate_from 0 F) c.loop-index.index (c.loop-index.index, x.0) (numbered F c.loop-index.index x.0 x.1)
    (sym (c.has_call_on_cycle.ensures x.0.0 x.0.1 x.1) ∙ c.if-has_call_on_cycle.true))

pub loop-index-preserved : goal.loop-index-preserved
loop-index-preserved g c =
    let F = c.args.linked.now in
    let T : ℕ × (List ℕ × List ℕ) → Bool = λ x. not (length (call_cycle_faults g.L.Lint.meaning F x.0 x.1.0 x.1.1) == 0) in
    let x = entry_there F c.loop-index.index (omega (arith, c.count-index-end.ensures, c.loop-index-test.true)) in
    any_none T (enumerate_from 0 F) c.loop-index.index (c.loop-index.index, x.0)
    (numbered F c.loop-index.index x.0 x.1) (sym (c.has_call_on_cycle.ensures x.0.0 x.0.1 x.1) ∙ c.if-has_call_on_cycle.false) c.loop-index.invariant

pub returns : goal.returns
returns g c =
    let F = c.args.linked.now in
    let T : ℕ × (List ℕ × List ℕ) → Bool = λ x. not (length (call_cycle_faults g.L.Lint.meaning F x.0 x.1.0 x.1.1) == 0) in
    let whole = take_all c.loop-index.index (enumerate_from 0 F) (omega (arith, length-enumerate_from 0 F, c.count-index-end.ensures, c.loop-index-test.false)) in
    sym (sym (ap (list_any T) whole) ∙ c.loop-index.invariant)
