use Rattle.std.proofs.Common.{◌∙◌}
use Rattle.al_session_folder.proofs.Views.{has_file}
use Rattle.al_session.proofs.refused.has_file.Goals as goal

pub returns : goal.returns
returns g c = c.contains_key.ensures ∙ has_file c.args.files.now.entries c.args.path.now
