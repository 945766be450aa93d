use Rattle.std.proofs.Common.{◌≡◌, ◌++◌, drop, map}
use Rattle.std.specs.Option.{option_copied}
use Rattle.al_check_interfaces.specs.CallViews.{call_of}
use Rattle.al_check_interfaces.specs.FolderCalls.{folder_call}
use Rattle.al_check_calls.specs.AnswerViews.{answered_of}
use Rattle.al_check_calls.proofs.Answering.{answered_of_kept}
use Rattle.al_check_calls.proofs.answers.with_answers.Given as goal

-- the calls so far, then the calls left with the answers left
abbrev pub invariant-loop-i : goal.invariant-loop-i
invariant-loop-i l =
    let seen = folder_call (map call_of l.calls) in
    let answers = map (λ a. option_copied a) l.answers in
    map answered_of l.found.items ++ answered_of_kept (map seen (drop l.i l.kept)) (drop l.i answers) ≡ answered_of_kept (map seen l.kept) answers
