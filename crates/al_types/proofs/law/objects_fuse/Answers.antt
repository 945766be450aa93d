use Rattle.std.proofs.Common.{ap, sym}
use Rattle.al_types.specs.Types.{object_type}
use Rattle.al_types.proofs.JoinedFields.{joined_parts}
use Rattle.al_types.proofs.law.objects_fuse.Goals as goal

pub returns : goal.returns
returns c fs gs r s apart = ap object_type (sym (joined_parts fs gs r s apart))
