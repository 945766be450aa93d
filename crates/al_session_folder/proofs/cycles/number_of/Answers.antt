use Rattle.std.proofs.Common.{◌∙◌}
use Rattle.al_session_folder.proofs.CallCycles.{number_kept}
use Rattle.al_session_folder.proofs.cycles.number_of.Goals as goal

pub returns-clause-number : goal.returns-clause-number
returns-clause-number g c = rw (← c.as_str.ensures.text) (c.get_index_of.ensures.index ∙ number_kept c.args.files.now.entries c.as_str.result.now)
