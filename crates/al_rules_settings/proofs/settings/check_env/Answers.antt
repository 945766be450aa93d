use Rattle.std.proofs.Common.{◌∙◌, [], append-nil, refl, rules, sym, tests}
use Rattle.std.proofs.lemmas.Iterator.{YieldsList-from_slice}
use Rattle.std.proofs.lemmas.Iterator.Search.{all_from_yields_List}
use Rattle.al_yaml_tree.specs.View.{entry_view}
use Rattle.al_tree.specs.Keys.{key_of}
use Rattle.al_rules_formats.specs.Names.{is_variable}
use Rattle.al_rules_settings.proofs.Variables.{no_faults}
use Rattle.al_rules_settings.proofs.settings.check_env.Goals as goal

pub returns-then-all : goal.returns-then-all
returns-then-all c =
    let told = all_from_yields_List (λ e. is_variable (key_of (entry_view e))) _ _ c.all.result c.all.ensures.ran
    (YieldsList-from_slice c.in-Some-mapping.entries.now c.iter.ensures.rest) (λ x b q k. search (rules, tests)) in
    let none = no_faults [] c.in-Some-mapping.entries.now (sym told ∙ c.if-all.true) in
    rw (← c.in-Some.ensures, ← c.in-Some-mapping.ensures, none, append-nil c.args.faults.now) refl
