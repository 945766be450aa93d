use Rattle.std.proofs.Common.{◌∙◌, ap, not, sym}
use Rattle.std.specs.Option.{option_map_or}
use Rattle.al_base.specs.NamePlaces.{is_first_text}
use Rattle.al_tree.specs.Keys.{has_first, repeats}
use Rattle.al_tree.proofs.keys.KeyIndex.repeats.Goals as goal

pub returns-in-None : goal.returns-in-None
unfolding repeats
returns-in-None c =
    c.contains.ensures ∙ ap (λ f. f c.args.key.now) c.first.ensures
    ∙ sym (ap (λ o. option_map_or (λ p. not (is_first_text p c.args.i)) o (has_first c.args.self.now c.args.i c.args.key.now)) c.in-None.is)

pub returns-in-Some : goal.returns-in-Some
unfolding repeats
returns-in-Some c = rw c.in-Some.is (ap not c.is_first.ensures)
