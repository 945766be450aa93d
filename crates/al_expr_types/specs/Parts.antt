-- The parts of an object that can be looked up.
use Rattle.al_types.specs.Types.{Optional, Parts}
use Rattle.al_expr_types.specs.declared.parts.Part.{Part}
use Rattle.al_expr_types.specs.declared.parts.Part.TheVariants as part

abbrev pub part_in : Part → Parts → Optional
part_in (part.Named n) p = p.0 n.now
part_in part.Rest p = p.1
part_in part.All p = p.2
