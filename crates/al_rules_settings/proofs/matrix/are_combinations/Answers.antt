use Rattle.std.proofs.Common.{◌∙◌, rules, sym, tests}
use Rattle.std.proofs.lemmas.Iterator.{YieldsList-from_slice}
use Rattle.std.proofs.lemmas.Iterator.Search.{all_from_yields_List}
use Rattle.std.proofs.lemmas.List.Folds.{list_all-map}
use Rattle.al_yaml_tree.specs.View.{view}
use Rattle.al_rules_settings.specs.Matrix.{is_combination}
use Rattle.al_rules_settings.proofs.matrix.are_combinations.Goals as goal

pub returns : goal.returns
returns c =
    rw (← c.in-Some.ensures) (all_from_yields_List (λ n. is_combination (view n)) _ _ c.all.result c.all.ensures.ran
    (YieldsList-from_slice _ c.iter.ensures.rest) (λ x b q k. search (rules, tests))
    ∙ sym (list_all-map is_combination view c.in-Some.items.now))
