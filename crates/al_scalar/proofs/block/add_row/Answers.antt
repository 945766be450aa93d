use Rattle.std.proofs.Common.{◌∙◌, ◌++◌, ◌∷◌, ◌<◌, [], ap, sym, arith, slice_index, Some}
use Rattle.al_scalar.specs.Block.{text_after}
use Rattle.al_scalar.specs.LineEnds.{cells_between}
use Rattle.al_scalar.specs.Private.BlockRead.{row_like, last_row}
use Rattle.al_scalar.proofs.RowLemmas.{row-text, last_end-between, some-between, spaced-between}
use Rattle.al_scalar.proofs.PlainLemmas.{blank-value}
use Rattle.al_scalar.proofs.block.add_row.Goals as goal

pub returns-clause-text : goal.returns-clause-text
returns-clause-text c = λ k rs.
    let bytes = c.args.bytes.now in
    let from = c.args.row.from in
    let stop = c.args.row.stop in
    let less : from < stop = omega (arith, c.requires.order, c.if-row.false) in
    let lit = c.args.literal in
    let old = c.args.state.now.text in
    let new = c.push_run.new.self in
    let last = last_row c.args.state.now.pending.last in
    let es = c.args.state.now.pending.empties.items in
    let b = c.is_blank-spaced.result in
    let spaced = spaced-between bytes from stop b less (sym (blank-value b (slice_index bytes from, from) c.is_blank-spaced.ensures)) in
    row-text new c.push_joint.new.text lit k last es (cells_between bytes from stop) (stop ∷ []) rs old b (some-between bytes from stop less) spaced
    c.in_ok-push_joint.ensures c.in_ok-push_run.ensures
    ∙ ap (λ xs. new ++ text_after lit k (Some (row_like b (stop ∷ []))) xs rs) (sym c.clear.ensures.items)

pub returns-clause-end : goal.returns-clause-end
returns-clause-end c =
    let less : c.args.row.from < c.args.row.stop = omega (arith, c.requires.order, c.if-row.false) in
    last_end-between c.args.bytes.now c.args.row.from c.args.row.stop c.args.state.now.end less
