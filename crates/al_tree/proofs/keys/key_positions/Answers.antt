use Rattle.std.proofs.Common.{◌≡◌, ◌∙◌, IfOk, ap, arith, map, subst}
use Rattle.std.proofs.lemmas.List.{take_all}
use Rattle.al_base.specs.NamePlaces.{TellsFirsts, is_first_text, text_place, text_position}
use Rattle.al_yaml_tree.specs.View.{entry_view}
use Rattle.al_tree.specs.Keys.{keys_in}
use Rattle.al_tree.proofs.keys.key_positions.Goals as goal

-- the keys that are sorted
all_of : (c : goal.After-drop-keys-2) → map (λ k. k.now) c.as_slice.result.now ≡ keys_in (map entry_view c.args.entries.now)
all_of c =
    ap (map (λ k. k.now)) c.as_slice.ensures.value ∙ c.loop-entry.invariant
    ∙ ap (λ es. keys_in (map entry_view es)) (take_all c.loop-entry.entry-index c.args.entries.now (omega (arith, c.loop-entry-test.false)))

pub returns-clause-position : goal.returns-clause-position
returns-clause-position c = subst (λ ks. IfOk c.of.result (λ p. text_position p ≡ text_place ks)) (all_of c) c.of.ensures.position

pub returns-clause-first : goal.returns-clause-first
returns-clause-first c = subst (λ ks. IfOk c.of.result (λ p. TellsFirsts (text_place ks) ks (is_first_text p))) (all_of c) c.of.ensures.first
