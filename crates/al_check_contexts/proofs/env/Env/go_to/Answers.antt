use Rattle.std.proofs.Common.{ap, ◌∙◌}
use Rattle.al_check_places.specs.Places.{place_of}
use Rattle.al_check_contexts.specs.Answered.{known_of}
use Rattle.al_check_contexts.specs.Scopes.{scope_at}
use Rattle.al_check_contexts.proofs.env.Env.go_to.Goals as goal
use Rattle.al_yaml_tree.specs.View.{view}

pub returns-clause-shown : goal.returns-clause-shown
returns-clause-shown c = record { known = λ x. (c.in_ok-see.ensures.shows.each x).known }

pub returns-clause-scope : goal.returns-clause-scope
returns-clause-scope c =
    let shows = rw c.in_ok-enter.ensures.same at c.in_ok-see.ensures.shows in
    (λ i. record {
      types = λ x. (shows.each x).is i;
      available = c.available_at-self.ensures i;
      in_run = c.args.place.is_script;
    })
    ∙ ap (λ f. scope_at f.kind (known_of f.known) (view f.root.now) (place_of c.args.place)) (c.in_ok-see.ensures.moved.file ∙ c.in_ok-enter.ensures.moved.file)
