use Rattle.std.proofs.Common.{◌<◌, sym, arith, length, slice_index}
use Rattle.al_scalar.specs.LineEnds.{cells_between}
use Rattle.al_scalar.specs.Private.BlockRead.{last_row}
use Rattle.al_scalar.proofs.RowLemmas.{row-final, last_end-between, some-between, spaced-between}
use Rattle.al_scalar.proofs.PlainLemmas.{blank-value}
use Rattle.al_scalar.proofs.block.end_row.Goals as goal

pub returns : goal.returns
returns c =
    let bytes = c.args.bytes.now in
    let from = c.args.from in
    let stop = length bytes in
    let less : from < stop = omega (arith, c.requires.inside, c.if-from-bytes.false) in
    let lit = c.args.style.literal in
    let old = c.args.state.now.text in
    let last = last_row c.args.state.now.pending.last in
    let es = c.args.state.now.pending.empties.items in
    let b = c.is_blank-spaced.result in
    let spaced = spaced-between bytes from stop b less (sym (blank-value b (slice_index bytes from, from) c.is_blank-spaced.ensures)) in
    record {
      text = row-final c.push_run.new.self c.push_joint.new.text lit c.args.style.chomping last es (cells_between bytes from stop) old b (some-between bytes from stop less) spaced
          c.in_ok-push_joint.ensures c.in_ok-push_run.ensures;
      within = (omega (arith, c.requires.after, less), omega arith);
      end = sym (last_end-between bytes from stop c.args.state.now.end less);
    }
