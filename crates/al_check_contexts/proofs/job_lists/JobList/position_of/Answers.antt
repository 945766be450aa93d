use Rattle.std.proofs.Common.{◌∙◌, ap, map}
use Rattle.std.proofs.lemmas.Result.{IfOk-weaker}
use Rattle.al_base.specs.Names.{same_name}
use Rattle.al_tree.specs.Keys.{key_of}
use Rattle.al_tree.specs.Values.{member_of}
use Rattle.al_check_contexts.proofs.JobLemmas.{first_mapped}
use Rattle.al_check_contexts.proofs.job_lists.JobList.position_of.Goals as goal

pub returns : goal.returns
returns c =
    let name = c.args.name.now in
    IfOk-weaker c.get.result _ _
    (λ i is. is ∙ ap (λ f. f name) c.args.self.now.by_name ∙ first_mapped key_of (λ m. same_name m name) (map member_of c.args.self.now.members.items))
    c.get.ensures
