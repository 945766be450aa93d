use Rattle.std.proofs.Common.{◌∙◌, ap, rules, sym, tests}
use Rattle.std.proofs.lemmas.Iterator.{YieldsList-from_slice}
use Rattle.std.proofs.lemmas.Iterator.Search.{any_from_yields_List}
use Rattle.std.specs.List.{list_any}
use Rattle.std.specs.Prelude.{is_some}
use Rattle.al_base.proofs.Elements.{any_mapped}
use Rattle.al_yaml_tree.specs.Access.{scalar_in}
use Rattle.al_yaml_tree.specs.View.{view}
use Rattle.al_check_objects.proofs.matrix.is_open_include.Goals as goal

pub returns-else-is_scalar : goal.returns-else-is_scalar
returns-else-is_scalar c =
    rw (sym c.is_scalar.ensures ∙ c.if-is_scalar.false)
    (any_from_yields_List (λ n. is_some (scalar_in (view n))) _ _ c.any.result c.any.ensures.ran (YieldsList-from_slice c.items.result.now c.iter.ensures.rest) (λ x b q k. search (rules, tests))
    ∙ any_mapped view (λ n. is_some (scalar_in n)) c.items.result.now ∙ ap (list_any (λ i. is_some (scalar_in i))) c.items.ensures)
