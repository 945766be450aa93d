use Rattle.std.proofs.Common.{◌∙◌, ap, refl, sym}
use Rattle.al_yaml_tree.specs.View.{entry_view}
use Rattle.al_tree.specs.Keys.{has_first, key_of, repeats}
use Rattle.al_tree.proofs.Lists.{text_there}
use Rattle.al_tree.proofs.keys.KeyIndex.key_at.Goals as goal

pub invariant_of-result : goal.invariant_of-result
invariant_of-result c =
    let x = c.args.self.now in
    let i = c.args.i in
    let key = c.key_of-key.ensures ∙ ap (λ e. key_of (entry_view e)) (sym c.index-self-i.is)
    ∙ sym (text_there key_of entry_view x.entries.now x.entries.now i c.index-self-i.result refl c.requires.within c.index-self-i.is) in
    record {
      told = c.repeats.ensures ∙ ap (repeats x i) key ∙ c.requires.index.2 i c.requires.within ∙ sym (ap (has_first x i) key)
          ∙ sym (ap (λ f. f c.key_of-key.result.now) c.first.ensures);
    }

pub returns-clause-key : goal.returns-clause-key
returns-clause-key c =
    let x = c.args.self.now in
    c.key_of-key.ensures ∙ ap (λ e. key_of (entry_view e)) (sym c.index-self-i.is)
    ∙ sym (text_there key_of entry_view x.entries.now x.entries.now c.args.i c.index-self-i.result refl c.requires.within c.index-self-i.is)
