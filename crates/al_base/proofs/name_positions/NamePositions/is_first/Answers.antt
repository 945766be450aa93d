use Rattle.std.proofs.Common.{rules, tests}
use Rattle.al_base.specs.NamePlaces.{is_first_name}
use Rattle.al_base.proofs.Places.{own_within}
use Rattle.al_base.proofs.name_positions.NamePositions.is_first.Goals as goal

pub returns-then-i-len : goal.returns-then-i-len
unfolding is_first_name
returns-then-i-len c = own_within c.args.self.now.places.items c.args.i _ (search rules) c.index.ensures

pub returns-else-i-len : goal.returns-else-i-len
unfolding is_first_name
returns-else-i-len c = search (rules, tests)
