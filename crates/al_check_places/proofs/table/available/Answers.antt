use Rattle.std.proofs.Common.{◌≡◌, ◌+◌, ◌-◌, ◌∙◌, None, arith, map, sym, rules}
use Rattle.std.proofs.lemmas.List.{length-map}
use Rattle.al_check_places.specs.Availability.{table}
use Rattle.al_check_places.proofs.Longest.{at_most_six, begins, longest, none, shorter_left}
use Rattle.al_check_places.proofs.table.available.Goals as goal

pub loop-count-init : goal.loop-count-init
loop-count-init c =
    let keys = c.args.keys.now in
    record {
      inside = omega (arith, c.min-count.ensures);
      fewer = at_most_six (map (λ k. k.now) keys) _ (omega (arith, c.min-count.ensures, length-map keys (λ k. k.now)));
    }

pub returns-then-is_some : goal.returns-then-is_some
returns-then-is_some c =
    let keys = c.args.keys.now in
    let n = c.loop-count.count - 1 in
    let next : c.loop-count.count ≡ n + 1 = omega (arith, c.loop-count-test.true) in
    longest keys n (omega (arith, c.loop-count.invariant.inside)) c.row_of-row.result (rw next at c.loop-count.invariant.fewer) c.row_of-row.ensures
    (sym c.is_some.ensures ∙ c.if-is_some.true)

pub loop-count-preserved : goal.loop-count-preserved
loop-count-preserved c =
    let keys = c.args.keys.now in
    let n = c.loop-count.count - 1 in
    let next : c.loop-count.count ≡ n + 1 = omega (arith, c.loop-count-test.true) in
    record {
      inside = omega (arith, c.loop-count.invariant.inside);
      fewer = shorter_left keys n (omega (arith, c.loop-count.invariant.inside)) c.row_of-row.result (rw next at c.loop-count.invariant.fewer) c.row_of-row.ensures
          (sym c.is_some.ensures ∙ c.if-is_some.false);
    }

pub returns : goal.returns
returns c =
    let last : c.loop-count.count ≡ 0 = search rules in
    sym (none (begins (map (λ k. k.now) c.args.keys.now)) None table (rw last at c.loop-count.invariant.fewer))
