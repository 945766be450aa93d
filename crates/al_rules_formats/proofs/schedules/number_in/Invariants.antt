use Rattle.std.proofs.Common.{◌≡◌, ◌≤◌, drop}
use Rattle.std.specs.Char.{is_ascii_digit}
use Rattle.std.specs.List.{list_all}
use Rattle.al_base.specs.Digits.{number_from_decimal}
use Rattle.al_rules_formats.specs.Private.Views.{least_thousand, number_on}
use Rattle.al_rules_formats.proofs.schedules.number_in.Given as goal

abbrev pub invariant-loop-byte : goal.invariant-loop-byte
invariant-loop-byte l = record {
  small : l.number ≤ 1000;
  digits : list_all is_ascii_digit (drop l.byte-index l.text) ≡ list_all is_ascii_digit l.text;
  number : least_thousand (number_on l.number (drop l.byte-index l.text)) ≡ least_thousand (number_from_decimal l.text);
}
