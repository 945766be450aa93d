use Rattle.std.proofs.Common.{◌∙◌, subst}
use Rattle.std.proofs.lemmas.List.Filters.{dedup_is}
use Rattle.std.specs.List.Sorted.{IsSorted}
use Rattle.al_base.specs.FaultLists.{fault_cmp}
use Rattle.al_base.proofs.FaultLists.{derived_is, derived_ties, fault_cmp_total, fault_cmp_same}
use Rattle.al_base.proofs.InOrder.{dedup-in_order}
use Rattle.al_base.proofs.lists.fault_list.Goals as goal

pub returns : goal.returns
returns c =
    let is = dedup_is _ _ _ c.dedup.ensures.filtered in
    let moved = c.sort_unstable.ensures.permutation in
    let sorted : IsSorted fault_cmp c.sort_unstable.new.self.items = subst (λ cmp. IsSorted cmp c.sort_unstable.new.self.items) (λ i x y. derived_is x y i) c.sort_unstable.ensures.sorted in
    is ∙ dedup-in_order fault_cmp_total fault_cmp_same _ derived_ties _ _ moved sorted
