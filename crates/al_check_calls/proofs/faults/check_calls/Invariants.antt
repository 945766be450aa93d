use Rattle.std.proofs.Common.{◌≡◌, ◌++◌, map, take}
use Rattle.std.specs.List.{flat_map}
use Rattle.al_check_calls.specs.AnswerViews.{answered_of, typing_in}
use Rattle.al_check_calls.specs.Private.Comparing.{faults_but_names}
use Rattle.al_check_contexts.specs.Environments.{HasMoved, file_of}
use Rattle.al_check_calls.proofs.faults.check_calls.Given as goal

abbrev pub invariant-loop-one : goal.invariant-loop-one
invariant-loop-one l = record {
  moved : HasMoved l.env l.fn.env;
  faults : l.faults ≡ l.fn.faults
      ++ flat_map (faults_but_names (typing_in (file_of l.fn.env))) (map answered_of (take l.one-index l.answered));
}
