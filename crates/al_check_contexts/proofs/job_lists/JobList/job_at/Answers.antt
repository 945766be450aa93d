use Rattle.std.proofs.Common.{map, refl}
use Rattle.al_tree.specs.Values.{member_of}
use Rattle.al_check_contexts.proofs.JobLemmas.{same_there}
use Rattle.al_check_contexts.proofs.job_lists.JobList.job_at.Goals as goal

pub returns : goal.returns
returns c =
    let items = c.args.self.now.members.items in
    same_there member_of items (map member_of items) c.args.i c.index.result.now refl c.requires c.index.ensures
