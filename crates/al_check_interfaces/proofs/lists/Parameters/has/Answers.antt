use Rattle.std.proofs.Common.{List, ap, is_some, ◌∙◌}
use Rattle.al_base.specs.NamePlaces.{name_position}
use Rattle.al_check_interfaces.specs.declared.interfaces.Parameter.{Parameter}
use Rattle.al_check_interfaces.specs.Parameters.{has_parameter}
use Rattle.al_check_interfaces.proofs.Positions.{is_named}
use Rattle.al_check_interfaces.proofs.lists.Parameters.has.Goals as goal

pub returns : goal.returns
returns c =
    let name = c.args.name.now in
    c.is_some.ensures ∙ ap is_some c.in_ok-get.ensures
    ∙ is_named c.self.inside.parameters.items (name_position c.self.inside.positions) name c.self.invariant.0
    ∙ ap (λ (l : List Parameter). has_parameter l name) c.self.view_is
