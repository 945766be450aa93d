use Rattle.std.proofs.Common.{◌≡◌, drop, map}
use Rattle.std.specs.Map.{lookup}
use Rattle.al_base.specs.Names.{same_name}
use Rattle.al_rules_formats.specs.Private.Views.{range_name}
use Rattle.al_rules_formats.proofs.schedules.value.Given as goal

abbrev pub invariant-loop-name : goal.invariant-loop-name
invariant-loop-name l = lookup (same_name l.text) (map range_name (drop l.name-index l.range.names.now)) ≡ lookup (same_name l.text) (map range_name l.range.names.now)
