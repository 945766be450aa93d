use Rattle.std.proofs.Common.{arith}
use Rattle.std.proofs.lemmas.Bool.Decides.{nat_tests}
use Rattle.std.proofs.lemmas.Grind.{common_steps}
use Rattle.std.proofs.lemmas.List.Filters.{dedup_is}
use Rattle.al_session_folder.proofs.ListedFaults.{ordered_faults}
use Rattle.al_session_folder.proofs.joining.join_faults.Goals as goal

pub returns : goal.returns
returns c =
    let sorted = ordered_faults c.in_ok-joined.joined.items c.sort_unstable.new.self.items c.dedup.new.self.items c.sort_unstable.ensures.permutation
    c.sort_unstable.ensures.sorted (dedup_is _ _ _ c.dedup.ensures.filtered) in
    grind (arith, common_steps, nat_tests)
