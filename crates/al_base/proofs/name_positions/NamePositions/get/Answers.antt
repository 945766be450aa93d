use Rattle.std.proofs.Common.{ap, ◌∙◌}
use Rattle.al_base.specs.NamePlaces.{name_position}
use Rattle.al_base.specs.SortedTexts.{position_among}
use Rattle.al_base.proofs.name_positions.NamePositions.get.Goals as goal

pub returns : goal.returns
unfolding name_position
returns c =
    c.position_by.ensures ∙ ap (λ es. position_among (λ n. n.items) es c.as_slice-2.result.now) c.as_slice.ensures.value
    ∙ ap (position_among (λ n. n.items) c.args.self.now.entries.items) (c.as_slice-2.ensures.value ∙ c.in_ok-lower.ensures)
