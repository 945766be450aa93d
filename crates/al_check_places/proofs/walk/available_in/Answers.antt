use Rattle.std.proofs.Common.{ap, sym, ◌∙◌, map}
use Rattle.al_check_places.specs.Availability.{availability}
use Rattle.al_check_places.specs.Places.{row_of_way}
use Rattle.al_check_places.specs.Ways.{way_step_view}
use Rattle.al_check_places.proofs.walk.available_in.Goals as goal

pub returns-in-Workflow : goal.returns-in-Workflow
returns-in-Workflow c =
    c.available.ensures ∙ ap availability c.keys.ensures ∙ sym (ap (λ k. row_of_way k (map way_step_view c.args.way.now.steps.items)) c.in-Workflow.is)
