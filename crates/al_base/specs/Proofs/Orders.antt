-- The order of a fault's arguments is total.
use Rattle.std.specs.Cmp.{IsTotalOrder}
use Rattle.std.proofs.lemmas.Cmp.{nat_list_cmp_total, lists_total}
use Rattle.al_base.specs.Orders.{args_cmp}

pub args_total : IsTotalOrder args_cmp
args_total = lists_total nat_list_cmp_total
