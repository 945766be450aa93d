use Rattle.std.proofs.Common.{◌∙◌, map, ap, sym}
use Rattle.al_scalar.specs.Line.{Cell}
use Rattle.al_scalar.proofs.Locating.{bytes-cells_from}
use Rattle.al_scalar.proofs.texts.LongText.as_bytes.Goals as goal

pub returns : goal.returns
returns c =
    let t = c.self.inside in
    c.as_slice.ensures.value ∙ sym (bytes-cells_from 0 t.bytes.items t.runs) ∙ ap (map (λ (c : Cell). c.0)) c.self.view_is
