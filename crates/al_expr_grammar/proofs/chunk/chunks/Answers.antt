use Rattle.std.proofs.Common.{◌+◌, [], length-append, sym, ◌∙◌, arith, rules}
use Rattle.std.proofs.lemmas.List.{take_rest, map-append}
use Rattle.std.proofs.lemmas.List.Elements.{All-append, All-cons, All-nil}
use Rattle.al_expr_grammar.specs.Chunks.{IsCutFrom}
use Rattle.al_expr_grammar.proofs.Chunking.{closing_begins, cut_off, none_left, one_more, opening_ends}
use Rattle.al_expr_grammar.proofs.chunk.chunks.Goals as goal

pub returns : goal.returns
returns c =
    let none = rw (c.as_bytes-bytes.ensures.value, take_rest) at c.in_default.ensures.value in
    let all = none_left c.args.text.now _ c.text.at c.text.invariant.so_far none in
    record { spans = all.0; contents = c.text.invariant.contents; fault = all.1 }

pub returns-in_default-closing_position : goal.returns-in_default-closing_position
returns-in_default-closing_position c =
    let before = rw (c.as_bytes-bytes.ensures.value, take_rest) at c.in-Some.ensures.value in
    let none = rw (c.as_bytes-bytes.ensures.value, take_rest) at c.in_default-closing_position.ensures.value in
    let fault = rw (c.as_bytes-bytes.ensures.value, take_rest) at c.open_fault.ensures in
    let all = cut_off c.args.text.now _ c.text.at c.text.invariant.so_far c.in-Some.before c.text.invariant.few before none in
    record { spans = all.0; contents = c.text.invariant.contents; fault = fault ∙ all.1 }

pub range-content-requires-clause-start_boundary : goal.range-content-requires-clause-start_boundary
range-content-requires-clause-start_boundary c =
    let before = rw (c.as_bytes-bytes.ensures.value, take_rest) at c.in-Some.ensures.value in
    λ some. opening_ends c.args.text.now c.text.at c.in-Some.before c.utf8.text (sym before)

pub range-content-requires-clause-end_boundary : goal.range-content-requires-clause-end_boundary
range-content-requires-clause-end_boundary c =
    let len = rw (c.as_bytes-bytes.ensures.value, take_rest) at c.in-Some-closing_position.ensures.value in
    closing_begins c.args.text.now (c.text.at + c.in-Some.before + 3) c.in-Some-closing_position.len (sym len)

pub text-preserved : goal.text-preserved
text-preserved c =
    let before = rw (c.as_bytes-bytes.ensures.value, take_rest) at c.in-Some.ensures.value in
    let len = rw (c.as_bytes-bytes.ensures.value, take_rest) at c.in-Some-closing_position.ensures.value in
    let cut = IsCutFrom c.args.text.now in
    record {
      within = search rules;
      few = rw (c.in_ok-push.ensures.items, map-append, length-append) (omega (arith, c.text.invariant.few));
      contents = rw c.in_ok-push.ensures.items (All-append cut c.text.found.items _ c.text.invariant.contents (All-cons cut _ [] c.range-content.ensures.value (All-nil cut)));
      so_far = rw (c.in_ok-push.ensures.items, map-append)
          (one_more c.args.text.now _ c.text.at c.text.invariant.so_far c.in-Some.before c.text.invariant.few before c.in-Some-closing_position.len len);
    }
