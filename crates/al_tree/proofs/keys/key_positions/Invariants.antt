use Rattle.std.proofs.Common.{◌≡◌, take, map}
use Rattle.al_yaml_tree.specs.View.{entry_view}
use Rattle.al_tree.specs.Keys.{keys_in}
use Rattle.al_tree.proofs.keys.key_positions.Given as goal

abbrev pub invariant-loop-entry : goal.invariant-loop-entry
invariant-loop-entry l = map (λ k. k.now) l.keys.items ≡ keys_in (map entry_view (take l.entry-index l.entries))
