use Rattle.std.proofs.Common.{ap, ◌∙◌}
use Rattle.al_base.specs.NamePlaces.{text_position}
use Rattle.al_base.specs.SortedTexts.{position_among}
use Rattle.al_base.proofs.name_positions.TextPositions.get.Goals as goal

pub returns : goal.returns
unfolding text_position
returns c = c.position_by.ensures ∙ ap (λ es. position_among (λ t. t.now) es c.args.text.now) c.as_slice.ensures.value
