use Rattle.std.proofs.Common.{List, Some, ap, arith, find, sym, ◌∙◌}
use Rattle.al_base.specs.NamePlaces.{name_position}
use Rattle.al_check_interfaces.specs.declared.interfaces.Parameter.{Parameter}
use Rattle.al_check_interfaces.specs.Parameters.{is_parameter}
use Rattle.al_check_interfaces.proofs.Positions.{named_at, not_named, position_within}
use Rattle.al_check_interfaces.proofs.lists.Parameters.find.Goals as goal

pub index-requires : goal.index-requires
index-requires c =
    let within = position_within c.self.inside.parameters.items (name_position c.self.inside.positions) c.args.name.now c.self.invariant.0 c.in-Some.i
    (sym c.in-Some.is ∙ c.in_ok-i.ensures) in
    omega (arith, within, c.self.inside.parameters.ok.0)

pub returns-in-Some : goal.returns-in-Some
returns-in-Some c =
    let name = c.args.name.now in
    ap Some c.index.ensures
    ∙ named_at c.self.inside.parameters.items (name_position c.self.inside.positions) name c.self.invariant.0 c.in-Some.i c.index.result.now
    (sym c.in-Some.is ∙ c.in_ok-i.ensures)
    ∙ ap (λ (l : List Parameter). find (is_parameter name) l) c.self.view_is

pub returns-in-None : goal.returns-in-None
returns-in-None c =
    let name = c.args.name.now in
    not_named c.self.inside.parameters.items (name_position c.self.inside.positions) name c.self.invariant.0 (sym c.in-None.is ∙ c.in_ok-i.ensures)
    ∙ ap (λ (l : List Parameter). find (is_parameter name) l) c.self.view_is
