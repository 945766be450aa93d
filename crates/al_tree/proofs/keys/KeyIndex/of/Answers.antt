use Rattle.al_tree.proofs.KeyLemmas.{few_keys, many_keys}
use Rattle.al_tree.proofs.keys.KeyIndex.of.Goals as goal

pub returns-then-entries-le-FEW_KEYS : goal.returns-then-entries-le-FEW_KEYS
returns-then-entries-le-FEW_KEYS c = few_keys c.args.entries

pub returns : goal.returns
returns c = many_keys c.args.entries c.in_ok-positions.positions c.in_ok-positions.ensures.position c.in_ok-positions.ensures.first
