use Rattle.std.proofs.Common.{◌∙◌, sym, arith}
use Rattle.al_scalar.specs.LineEnds.{cells_between, IsLineEnd}
use Rattle.al_scalar.specs.Private.PlainLines.{context_of, IsWordAt}
use Rattle.al_scalar.proofs.LineCells.{run_at, cell_at, same_then, is_inside, never}
use Rattle.al_scalar.proofs.PlainLemmas.{part_done, part_more, part_word, same_word, ends-end}
use Rattle.al_scalar.proofs.plain.plain_end.Goals as goal

pub returns-then-ends_plain-clause-part : goal.returns-then-ends_plain-clause-part
returns-then-ends_plain-clause-part c =
    let bytes = c.args.bytes.now in
    let p = context_of c.args.context in
    let end = c.words.end in
    let found = c.blanks_end-solid in
    part_done p c.args.after_blank c.words.blank_before bytes c.args.at end found.result c.words.invariant.part
    (run_at bytes end found.result (cells_between bytes end found.result) found.ensures.lines)
    found.ensures.blanks found.ensures.from (c.if-ends_plain.ensures)

pub words-preserved-then-is_word : goal.words-preserved-then-is_word
words-preserved-then-is_word c =
    let bytes = c.args.bytes.now in
    let end = c.words.end in
    let word : IsWordAt bytes end = (c.if-end-bytes.true, c.is_word.ensures c.if-is_word.true) in
    record {
      from = omega (arith, c.words.invariant.from);
      inside = omega (arith, word.0);
      part = part_word bytes end word (context_of c.args.context) c.args.after_blank c.words.blank_before c.args.at c.words.invariant.part c.words.invariant.from;
      same = same_then c.words.invariant.same (same_word bytes end word);
    }

pub words-preserved : goal.words-preserved
words-preserved c =
    let bytes = c.args.bytes.now in
    let p = context_of c.args.context in
    let end = c.words.end in
    let found = c.blanks_end-solid in
    let solid = found.result in
    let not_end : IsLineEnd bytes solid → ⊥ = λ k. never (c.if-ends_plain.ensures ∙ sym (ends-end p bytes solid found.ensures.inside _ k)) in
    let run = run_at bytes end solid (cells_between bytes end solid) found.ensures.lines in
    let here = is_inside bytes solid found.ensures.inside not_end in
    let inside = here.inside in
    record {
      from = omega (arith, found.ensures.from, c.words.invariant.from);
      inside = omega (arith, inside);
      part = part_more p c.args.after_blank c.words.blank_before bytes c.args.at end solid c.words.invariant.part run found.ensures.blanks
          c.words.invariant.from found.ensures.from found.ensures.inside not_end
          (found.ensures.not_blank inside) (c.if-ends_plain.ensures);
      same = same_then c.words.invariant.same (same_then run.same (cell_at bytes solid inside here.not_feed here.not_return).same);
    }
