use Rattle.std.proofs.Common.{◌≡◌, ◌<◌, ◌-◌, ◌^◌, Some}
use Rattle.al_scalar.specs.Private.QuotedRead.{Between, hex_value}
use Rattle.al_scalar.specs.LineEnds.{cells_between}
use Rattle.al_scalar.proofs.quoted.read_digits.Given as goal

abbrev pub invariant-loop-i : goal.invariant-loop-i
invariant-loop-i l = record {
  between : Between l.bytes l.from l.i;
  value : hex_value 0 (cells_between l.bytes l.from l.i) ≡ Some l.value;
  small : l.value < 16 ^ (l.i - l.from);
}
