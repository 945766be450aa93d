use Rattle.std.proofs.Common.{◌≡◌, ◌≤◌, drop, length, map}
use Rattle.al_check_contexts.specs.Answered.{call_outputs}
use Rattle.al_check_contexts.specs.Lookups.{found_at}
use Rattle.al_check_contexts.proofs.Found.{found_in}
use Rattle.al_check_contexts.proofs.known.Outputs.of.Given as goal

abbrev pub invariant-loop-rest : goal.invariant-loop-rest
invariant-loop-rest l = record {
  within : l.rest ≤ length l.known.answers.now;
  found : found_at (record { positions = l.positions; lists = l.known.lists })
      ≡ found_in (map (call_outputs (map (λ n. n.now) l.known.lists.now)) (drop l.rest l.known.answers.now));
}

abbrev pub decreases-loop-rest : goal.decreases-loop-rest
decreases-loop-rest l = l.rest
