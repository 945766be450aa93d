use Rattle.std.proofs.Common.{rules, tests, ◌≡◌, ◌∙◌, ap, map, take}
use Rattle.std.specs.Str.{bytes_eq}
use Rattle.std.proofs.lemmas.Iterator.{YieldsList-from_slice, YieldsList-from_take}
use Rattle.std.proofs.lemmas.Iterator.Search.{any_from_yields_List}
use Rattle.al_base.proofs.Elements.{any_mapped}
use Rattle.al_yaml_tree.specs.View.{entry_view}
use Rattle.al_tree.specs.Keys.{has_first, is_before, key_of}
use Rattle.al_tree.proofs.KeyLemmas.{few_hold}
use Rattle.al_tree.proofs.keys.KeySet.contains.Goals as goal

pub returns-in-Some : goal.returns-in-Some
unfolding has_first
returns-in-Some c =
    let told : c.is_some_and.result ≡ is_before c.args.self.count c.get.result = search (rules, tests) in
    rw c.in-Some.is (told ∙ ap (is_before c.args.self.count) c.get.ensures)

pub returns-in-None : goal.returns-in-None
returns-in-None c =
    let key = c.args.key.now in
    let es = take c.args.self.count c.args.self.index.now.entries.now in
    any_from_yields_List (λ e. bytes_eq key (key_of (entry_view e))) _ _ _ c.any.ensures.ran
    (YieldsList-from_take c.args.self.count (YieldsList-from_slice c.args.self.index.now.entries.now (search rules)) (search rules))
    (λ x b q k. search (rules, tests))
    ∙ any_mapped entry_view (λ e. bytes_eq key (key_of e)) es ∙ any_mapped key_of (bytes_eq key) (map entry_view es)
    ∙ few_hold c.args.self key c.in-None.is
