use Rattle.std.proofs.Common.{◌≡◌, drop, find, map, option_map}
use Rattle.al_base.specs.Names.{among}
use Rattle.al_rules.specs.Names.{activities_of}
use Rattle.al_rules.proofs.names.activities_of.Given as goal

-- the first of the rows left that has the event is the first of all
abbrev pub invariant-loop-row : goal.invariant-loop-row
invariant-loop-row l =
    option_map (λ a. map (λ n. n.now) a.types.now) (find (λ a. among (map (λ n. n.now) a.events.now) l.event) (drop l.row-index l.row-items)) ≡ activities_of l.event
