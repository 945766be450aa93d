use Rattle.std.proofs.Common.{rules}
use Rattle.std.proofs.lemmas.List.Elements.{Contains-get_or}
use Rattle.al_session_folder.proofs.cycles.has_label_of.Goals as goal

pub bounds-labels-other : goal.bounds-labels-other
bounds-labels-other c = c.requires.nodes _ (Contains-get_or c.args.nodes.now c.loop-other.other-index 0 c.loop-other-test.true)

pub offset_bounds-labels-other : goal.offset_bounds-labels-other
offset_bounds-labels-other c = let below = bounds-labels-other c in search (rules, below)
