use Rattle.std.proofs.Common.{◌+◌, ◌≤◌, length, refl, arith}
use Rattle.al_scalar.proofs.MarkerLemmas.{marker_at-second, marker_at-third, marker_at-all}
use Rattle.al_scalar.proofs.lines.is_marker.Goals as goal

pub returns-then-not-begins-2 : goal.returns-then-not-begins-2
returns-then-not-begins-2 c = marker_at-second c.args.bytes.now c.args.at c.args.byte c.requires c.if-not-begins.ensures.value c.if-not-begins-2.ensures.value

pub returns-then-not-begins-3 : goal.returns-then-not-begins-3
returns-then-not-begins-3 c =
    let one = c.if-not-begins.ensures.inside refl in
    let in_second : c.args.at + 1 ≤ length c.args.bytes.now = omega (arith, one) in
    marker_at-third c.args.bytes.now c.args.at c.args.byte c.requires c.if-not-begins.ensures.value in_second c.if-not-begins-2.ensures.value c.if-not-begins-3.ensures.value

pub returns : goal.returns
returns c =
    let one = c.if-not-begins.ensures.inside refl in
    let two = c.if-not-begins-2.ensures.inside refl in
    let in_second : c.args.at + 1 ≤ length c.args.bytes.now = omega (arith, one) in
    let in_third : c.args.at + 2 ≤ length c.args.bytes.now = omega (arith, two) in
    marker_at-all c.args.bytes.now c.args.at c.args.byte c.requires c.if-not-begins.ensures.value in_second c.if-not-begins-2.ensures.value
    c.is_blank_or_end.result in_third c.if-not-begins-3.ensures.value c.is_blank_or_end.ensures
