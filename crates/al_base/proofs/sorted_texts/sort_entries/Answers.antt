use Rattle.std.proofs.Common.{rules}
use Rattle.std.proofs.lemmas.List.Sorted.{answers_always}
use Rattle.al_base.proofs.SortedTexts.{is_before, is_before_orders, sorted_positions}
use Rattle.al_base.proofs.sorted_texts.sort_entries.Goals as goal

pub returns-clause-order : goal.returns-clause-order
returns-clause-order g c =
    let items = g.T.AsSlice.items in
    c.in_ok-sort_by.ensures.sorted (is_before items) (is_before_orders items) (answers_always _ _ _ (λ f a r h k. search rules))

pub returns-clause-positions : goal.returns-clause-positions
returns-clause-positions g c =
    let items = g.T.AsSlice.items in
    sorted_positions items _ _ (c.sort_by.ensures.stable (is_before items) (is_before_orders items) (answers_always _ _ _ (λ f a r h k. search rules)))
