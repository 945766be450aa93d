use Rattle.std.proofs.Common.{◌≡◌, ◌∙◌, map, ap}
use Rattle.al_scalar.specs.Line.{Cell}
use Rattle.al_scalar.specs.Private.Forms.{short_cells}
use Rattle.al_scalar.proofs.texts.Text.as_bytes.Goals as goal

pub returns-in-Short : goal.returns-in-Short
returns-in-Short c =
    let view : short_cells c.in-Short.short ≡ c.args.self.now = rw c.in-Short.is at c.self.view_is in
    c.as_bytes.ensures ∙ ap (map (λ (c : Cell). c.0)) view
