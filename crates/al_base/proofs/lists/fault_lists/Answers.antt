use Rattle.al_base.proofs.FaultLists.{fault_cmp_total, fault_cmp_same, IsStrictlySortedBy-fault_list, Contains-fault_list, Contains-from_fault_list, fault_list-same}
use Rattle.al_base.proofs.InOrder.{AllPairs-strict}
use Rattle.al_base.proofs.lists.fault_lists.Goals as goal

pub returns-clause-order : goal.returns-clause-order
returns-clause-order c = (fault_cmp_total, fault_cmp_same)

pub returns-clause-sorted : goal.returns-clause-sorted
returns-clause-sorted c = IsStrictlySortedBy-fault_list

pub returns-clause-once : goal.returns-clause-once
returns-clause-once c faults = AllPairs-strict fault_cmp_total _ (IsStrictlySortedBy-fault_list faults)

pub returns-clause-members : goal.returns-clause-members
returns-clause-members c faults = (Contains-fault_list faults, Contains-from_fault_list faults)

pub returns-clause-one : goal.returns-clause-one
returns-clause-one c a b same = fault_list-same a b same.0 same.1
