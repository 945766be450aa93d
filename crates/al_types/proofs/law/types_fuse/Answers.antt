use Rattle.al_types.proofs.FuseLaws.{fuse_assoc, fuse_same, fuse_turned}
use Rattle.al_types.proofs.law.types_fuse.Goals as goal

pub returns : goal.returns
returns c = record { order = fuse_turned; grouping = fuse_assoc; repeats = fuse_same }
