use Rattle.std.proofs.Common.{◌≡◌, length, map, take}
use Rattle.al_base.specs.NamePlaces.{text_place}
use Rattle.al_base.specs.SortedTexts.{position_among}
use Rattle.al_base.proofs.Places.{InTurn}
use Rattle.al_base.proofs.name_positions.TextPositions.of.Given as goal

abbrev pub invariant-loop-i : goal.invariant-loop-i
invariant-loop-i l = record {
  position : position_among (λ t. t.now) l.entries.items ≡ text_place (map (λ t. t.now) (take l.i l.texts));
  many : length l.entries.items ≡ l.i;
  turn : InTurn (λ t. t.now) (map (λ t. t.now) l.texts) l.entries.items;
}
