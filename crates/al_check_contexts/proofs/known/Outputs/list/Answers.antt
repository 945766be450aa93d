use Rattle.std.proofs.Common.{ap, ◌∙◌, option_map}
use Rattle.al_check_contexts.proofs.Found.{list_found}
use Rattle.al_check_contexts.proofs.known.Outputs.list.Goals as goal

pub returns : goal.returns
returns c =
    ap (option_map (λ l. l.now)) c.copied.ensures ∙ list_found c.args.self.now.lists.now c.args.position c.get.result c.get.ensures.lookup
