use Rattle.std.proofs.Common.{◌≡◌, length, map, take}
use Rattle.al_base.specs.Names.{lower_case}
use Rattle.al_base.specs.NamePlaces.{text_place}
use Rattle.al_base.specs.SortedTexts.{position_among}
use Rattle.al_base.proofs.Places.{InTurn}
use Rattle.al_base.proofs.name_positions.NamePositions.of.Given as goal

abbrev pub invariant-loop-i : goal.invariant-loop-i
invariant-loop-i l = record {
  position : position_among (λ n. n.items) l.entries.items ≡ text_place (map (λ n. lower_case n.now) (take l.i l.names));
  many : length l.entries.items ≡ l.i;
  turn : InTurn (λ n. n.items) (map (λ n. lower_case n.now) l.names) l.entries.items;
}
