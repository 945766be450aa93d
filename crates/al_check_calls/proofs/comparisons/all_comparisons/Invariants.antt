use Rattle.std.proofs.Common.{◌≡◌, map, take}
use Rattle.std.specs.List.{flat_map}
use Rattle.al_check_calls.specs.AnswerViews.{answered_of}
use Rattle.al_check_calls.specs.Private.ComparisonViews.{compared_of}
use Rattle.al_check_calls.specs.Private.Comparing.{comparisons}
use Rattle.al_check_calls.proofs.comparisons.all_comparisons.Given as goal

abbrev pub invariant-loop-one : goal.invariant-loop-one
invariant-loop-one l = map compared_of l.found.items ≡ flat_map comparisons (map answered_of (take l.one-index l.answered))
