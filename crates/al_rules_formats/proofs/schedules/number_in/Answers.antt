use Rattle.std.proofs.Common.{◌≡◌, ◌∙◌, true, get_or, arith, rules}
use Rattle.std.proofs.lemmas.Bool.Decides.{nat_tests}
use Rattle.std.specs.Char.{is_ascii_digit}
use Rattle.al_rules_formats.proofs.Numbers.{digits_step, number_step}
use Rattle.al_rules_formats.proofs.schedules.number_in.Goals as goal

pub loop-byte-preserved : goal.loop-byte-preserved
loop-byte-preserved c =
    let digit : is_ascii_digit (get_or c.args.text.now c.loop-byte.byte-index 0) ≡ true = search rules in
    record {
      small = omega (arith, c.min-number.ensures);
      digits = digits_step c.args.text.now c.loop-byte.byte-index c.loop-byte-test.true digit ∙ c.loop-byte.invariant.digits;
      number = number_step c.args.text.now c.loop-byte.byte-index c.loop-byte.number _ c.loop-byte-test.true (grind (arith, nat_tests, c.min-number.ensures)) ∙ c.loop-byte.invariant.number;
    }
