use Rattle.std.proofs.Common.{◌∙◌, ◌++◌, map, ap, arith}
use Rattle.al_scalar.specs.LineEnds.{cells_between}
use Rattle.al_scalar.specs.Quoted.{character_cells}
use Rattle.al_scalar.proofs.ReadQuotedLemmas.{read_more, read_break}
use Rattle.al_scalar.proofs.quoted.read_quoted.Goals as goal

pub runs-preserved-in_ok-push_escape-in-Character : goal.runs-preserved-in_ok-push_escape-in-Character
runs-preserved-in_ok-push_escape-in-Character c =
    let bytes = c.args.bytes.now in
    let quotes = c.args.quotes in
    let q = c.args.quote in
    let run = c.literal_run-run.result in
    let at = c.runs.at in
    let mark = c.in-Character.ensures in
    let read = read_more quotes bytes at run.next q c.runs.text (cells_between bytes at run.end) c.runs.invariant.read c.literal_run-run.ensures.reads c.in_ok-push_run.ensures in
    let added = c.in_ok-push_escape-in-Character.ensures ∙ ap (λ bs. c.push_run.new.self ++ map (λ b. (b, run.next)) bs) (c.as_bytes.ensures.value ∙ c.encode_utf8.ensures.value) in
    record {
      from = omega (arith, mark.0, c.literal_run-run.ensures.order);
      inside = mark.1;
      read = read_more quotes bytes run.next c.in-Character.next q c.push_run.new.self (character_cells run.next c.in-Character.character) read mark.2 added;
    }

pub runs-preserved : goal.runs-preserved
runs-preserved c =
    let bytes = c.args.bytes.now in
    let quotes = c.args.quotes in
    let q = c.args.quote in
    let run = c.literal_run-run.result in
    let at = c.runs.at in
    let mark = c.in-Break.ensures in
    let folded = c.in_ok-at-in-Break.ensures in
    let read = read_more quotes bytes at run.next q c.runs.text (cells_between bytes at run.end) c.runs.invariant.read c.literal_run-run.ensures.reads c.in_ok-push_run.ensures in
    record {
      from = omega (arith, mark.0, folded.after, c.literal_run-run.ensures.order);
      inside = folded.inside;
      read = read_break quotes bytes run.next c.in-Break.end c.in_ok-at-in-Break.at q c.in-Break.escaped c.push_run.new.self read (mark.3 q) folded.lines folded.text;
    }
