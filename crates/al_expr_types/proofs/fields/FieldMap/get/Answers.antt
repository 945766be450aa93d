use Rattle.std.proofs.Common.{◌≡◌, ◌∙◌, ap, sym, take, Some, None, option_map}
use Rattle.al_base.specs.NamePlaces.{name_place}
use Rattle.al_types.proofs.FieldsByName.{found_nowhere, found_there}
use Rattle.al_expr_types.specs.Names.{names_in}
use Rattle.al_expr_types.specs.Types.{type_in}
use Rattle.al_expr_types.proofs.fields.FieldMap.get.Goals as goal

pub returns-in-Some-clause-ty : goal.returns-in-Some-clause-ty
returns-in-Some-clause-ty c = λ ms.
    let ns = names_in c.args.self.now.names in
    let at : name_place ns c.args.name.now ≡ Some c.in-Some.i = sym c.in_ok-i.ensures ∙ c.in-Some.is in
    ap (option_map (type_in ms)) c.type_at.ensures.ty ∙ found_there (type_in ms) ns (take c.args.count c.args.self.now.types.items) c.args.name.now c.in-Some.i at

pub returns-in-None-clause-ty : goal.returns-in-None-clause-ty
returns-in-None-clause-ty c = λ ms.
    let ns = names_in c.args.self.now.names in
    let at : name_place ns c.args.name.now ≡ None = sym c.in_ok-i.ensures ∙ c.in-None.is in
    found_nowhere ns _ c.args.name.now at
