use Rattle.std.proofs.Common.{slice_index, None, Some, ◌≡◌, ◌-◌, ◌+◌, ◌<◌, ◌*◌, ◌^◌, suc, subst, arith}
use Rattle.al_scalar.proofs.LineCells.{is_inside, never}
use Rattle.al_scalar.proofs.DigitLemmas.{digit-fits, digit-more, between-more, value-more, digits-wrong, to_hex_digit}
use Rattle.al_scalar.proofs.quoted.read_digits.Goals as goal

pub overflow_mul-value : goal.overflow_mul-value
overflow_mul-value c =
    let small : c.in-Some.digit < 16 = omega (arith, c.in-Some.ensures.value.0, c.in-Some.ensures.value.1) in
    let fits = digit-fits c.loop-i.value c.in-Some.digit (c.loop-i.i - c.args.from) c.loop-i.invariant.small (omega arith) small in
    omega (arith, fits)

pub overflow_add-value : goal.overflow_add-value
overflow_add-value c =
    let small : c.in-Some.digit < 16 = omega (arith, c.in-Some.ensures.value.0, c.in-Some.ensures.value.1) in
    let fits = digit-fits c.loop-i.value c.in-Some.digit (c.loop-i.i - c.args.from) c.loop-i.invariant.small (omega arith) small in
    omega (arith, fits)

pub returns-in-None : goal.returns-in-None
returns-in-None c =
    let bytes = c.args.bytes.now in
    let here = is_inside bytes c.loop-i.i c.loop-i.invariant.between.0.inside (λ h. never (c.if-is_line_end.ensures.1 h)) in
    let wrong = to_hex_digit (slice_index bytes c.loop-i.i) None c.in-None.ensures.value in
    digits-wrong bytes c.args.from c.loop-i.i c.args.count c.loop-i.value c.loop-i.invariant.between here c.loop-i-test.true c.loop-i.invariant.value wrong

pub loop-i-preserved : goal.loop-i-preserved
loop-i-preserved c =
    let bytes = c.args.bytes.now in
    let i = c.loop-i.i in
    let from = c.args.from in
    let here = is_inside bytes i c.loop-i.invariant.between.0.inside (λ h. never (c.if-is_line_end.ensures.1 h)) in
    let order = c.loop-i.invariant.between.0.from in
    let small : c.in-Some.digit < 16 = omega (arith, c.in-Some.ensures.value.0, c.in-Some.ensures.value.1) in
    let next : suc (i - from) ≡ (i + 1) - from = omega (arith, order) in
    record {
      between = between-more bytes from i c.loop-i.invariant.between here;
      value = value-more bytes from i c.loop-i.value c.in-Some.digit order c.loop-i.invariant.value (to_hex_digit (slice_index bytes i) (Some c.in-Some.digit) c.in-Some.ensures.value);
      small = subst (λ k. 16 * c.loop-i.value + c.in-Some.digit < 16 ^ k) next (digit-more c.loop-i.value c.in-Some.digit (i - from) c.loop-i.invariant.small small);
    }
