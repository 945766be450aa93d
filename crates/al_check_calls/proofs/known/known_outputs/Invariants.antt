use Rattle.al_check_calls.proofs.KnownLists.{AreKnown}
use Rattle.al_check_calls.proofs.known.known_outputs.Given as goal

abbrev pub invariant-loop-one : goal.invariant-loop-one
invariant-loop-one l = AreKnown l.answered l.one-index l.lists l.answers.items
