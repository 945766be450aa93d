use Rattle.std.proofs.Common.{◌+◌, ap, arith, refl, sym, ◌∙◌}
use Rattle.al_scalar.specs.LineEnds.{cells_between}
use Rattle.al_scalar.specs.Places.{lines_at}
use Rattle.al_scalar.specs.Private.QuotedRead.{quoted_in}
use Rattle.al_scalar.specs.Taken.{before}
use Rattle.al_scalar.proofs.FoldLemmas.{before-none}
use Rattle.al_scalar.proofs.LineLemmas.{cells_between-none}
use Rattle.al_scalar.proofs.LineCells.{is_inside, never}
use Rattle.al_scalar.proofs.LiteralLemmas.{reads-blanks, reads-run, reads-byte, reads-end, reads-more}
use Rattle.al_scalar.proofs.quoted.literal_run.Goals as goal

pub returns-then-is_line_end-clause-reads : goal.returns-then-is_line_end-clause-reads
returns-then-is_line_end-clause-reads c =
    let bytes = c.args.bytes.now in
    let quotes = c.args.quotes in
    let found = c.blanks_end-solid.ensures in
    reads-end quotes bytes c.args.at c.characters.end c.blanks_end-solid.result (cells_between bytes c.args.at c.characters.end) c.characters.invariant.reads
    (reads-blanks quotes bytes c.characters.end c.blanks_end-solid.result found.blanks found.lines found.inside (c.if-is_line_end.ensures.0 refl))

pub returns-then-is_mark-clause-reads : goal.returns-then-is_mark-clause-reads
returns-then-is_mark-clause-reads c =
    let bytes = c.args.bytes.now in
    let quotes = c.args.quotes in
    let found = c.blanks_end-solid.ensures in
    let here = is_inside bytes c.blanks_end-solid.result found.inside (λ h. never (c.if-is_line_end.ensures.1 h)) in
    reads-more quotes bytes c.args.at c.characters.end c.blanks_end-solid.result c.characters.invariant.from found.from c.characters.invariant.reads
    (reads-run quotes bytes c.characters.end c.blanks_end-solid.result found.blanks found.lines here (found.not_blank here.inside))

pub characters-preserved : goal.characters-preserved
characters-preserved c =
    let bytes = c.args.bytes.now in
    let quotes = c.args.quotes in
    let found = c.blanks_end-solid.ensures in
    let here = is_inside bytes c.blanks_end-solid.result found.inside (λ h. never (c.if-is_line_end.ensures.1 h)) in
    record {
      from = omega arith;
      inside = omega arith;
      reads = reads-more quotes bytes c.args.at c.characters.end (c.blanks_end-solid.result + 1) c.characters.invariant.from (omega arith) c.characters.invariant.reads
          (reads-byte quotes bytes c.characters.end c.blanks_end-solid.result found.blanks found.lines found.from here (found.not_blank here.inside) (λ h. never (c.if-is_mark.ensures.1 h)));
    }

pub characters-init : goal.characters-init
characters-init c =
    let bytes = c.args.bytes.now in
    let at = c.args.at in
    record {
      from = omega arith;
      inside = c.requires;
      reads = λ quote.
          let read = quoted_in c.args.quotes quote (lines_at bytes at) in
          sym (ap (λ cells. before cells read) (cells_between-none bytes at) ∙ before-none read);
    }
