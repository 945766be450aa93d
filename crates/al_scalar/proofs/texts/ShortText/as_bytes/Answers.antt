use Rattle.std.proofs.Common.{[], ◌∷◌, take, sym}
use Rattle.al_scalar.specs.Private.Segments.{first_run}
use Rattle.al_scalar.proofs.Locating.{bytes-cells_from}
use Rattle.al_scalar.proofs.texts.ShortText.as_bytes.Goals as goal

pub returns : goal.returns
returns c = let s = c.args.self.now in sym (bytes-cells_from 0 (take s.count s.bytes) (first_run s.first ∷ []))
