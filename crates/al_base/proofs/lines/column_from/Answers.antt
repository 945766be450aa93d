use Rattle.std.proofs.Common.{drop, take, ◌-◌, ◌≡◌, ◌∙◌, ◌+◌, ap, arith, rules, sym, tests}
use Rattle.std.proofs.lemmas.Iterator.{YieldsList-from_slice}
use Rattle.std.proofs.lemmas.Iterator.Consumers.{YieldsList-from_filter, count_from_yields_List}
use Rattle.al_base.specs.Positions.{begins_char, column_at}
use Rattle.al_base.proofs.Counting.{column_at-small}
use Rattle.al_base.proofs.LineStarts.{column_at-between}
use Rattle.al_base.proofs.lines.column_from.Goals as goal

column : (c : goal.After-count) → c.args.known + c.count.result ≡ column_at c.args.bytes.now c.args.offset
column c =
    let bytes = c.args.bytes.now in
    let from = c.args.from in
    let counted = count_from_yields_List _ c.count.result c.count.ensures.ran
    (YieldsList-from_filter _ begins_char (YieldsList-from_slice (take (c.args.offset - from) (drop from bytes)) (search rules)) c.filter.ensures.closure (λ x b q k. search (rules, tests))) in
    ap (λ n. n + c.count.result) c.requires.known ∙ ap (λ n. column_at bytes from + n) counted
    ∙ sym (column_at-between bytes from c.args.offset c.requires.order c.requires.within c.requires.line)

pub overflow_add-result : goal.overflow_add-result
overflow_add-result c = let small = column_at-small c.args.bytes.now c.args.offset in omega (arith, column c, small, c.requires.within, c.requires.small)

pub returns : goal.returns
returns c = column c
