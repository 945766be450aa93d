use Rattle.std.proofs.Common.{[], ◌<◌, ◌∙◌, ap, get_or, length, subst, sym}
use Rattle.al_base.specs.NamePlaces.{name_place}
use Rattle.al_expr_types.specs.Merging.{is_placed}
use Rattle.al_expr_types.proofs.Merges.{as_placed}
use Rattle.al_expr_types.proofs.name_list.NameList.is_first.Goals as goal

pub returns : goal.returns
returns c =
    let i = c.args.i in
    let within = subst (λ ns. i < length ns) (sym c.self.view_is) c.requires in
    c.is_first.ensures ∙ c.self.invariant.1 i within ∙ as_placed _ i ∙ ap (λ ns. is_placed (name_place ns (get_or ns i [])) i) c.self.view_is
