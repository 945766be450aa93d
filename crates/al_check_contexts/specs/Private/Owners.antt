-- Whose steps are seen, as the code has it.
use Rattle.std.specs.Prelude.{map}
use Rattle.std.specs.Option.{option_copied}
use Rattle.al_yaml_tree.specs.View.{view}
use Rattle.al_check_contexts.specs.Contexts.{Owner}
use Rattle.al_check_contexts.specs.declared.owners.Owner as code

abbrev pub owner_view : code.Owner → Owner
owner_view o = (option_copied o.job, map view o.steps.now)
