use Rattle.std.proofs.Common.{◌+◌, ◌≡◌, ◌≤◌}
use Rattle.al_scalar.specs.Places.{first_end, lines_at, text_at}
use Rattle.al_yaml_tree.specs.Content.{characters}
use Rattle.al_yaml_parts.proofs.lines.characters.Given as goal

abbrev pub invariant-loop-i : goal.invariant-loop-i
invariant-loop-i l = record {
  few : l.from + l.count ≤ l.i;
  line : first_end (lines_at l.bytes l.from) ≡ first_end (lines_at l.bytes l.i);
  characters : characters l.to (text_at l.bytes l.from) ≡ l.count + characters l.to (text_at l.bytes l.i);
}
