-- The code's comparisons and the names that calls give, as the specification has them.
use Rattle.al_tree.specs.Values.{member_of}
use Rattle.al_check_interfaces.specs.CallViews.{call_of}
use Rattle.al_check_calls.specs.Private.Comparing.{Comparison, GivenName}
use Rattle.al_check_calls.specs.declared.comparisons.Comparison as code_comparisons
use Rattle.al_check_calls.specs.declared.undefined.GivenName as code_names

abbrev pub compared_of : code_comparisons.Comparison → Comparison
compared_of q = record { kind = q.kind; call = call_of q.call; signature = q.signature.now }

abbrev pub name_of : code_names.GivenName → GivenName
name_of n = record { by = compared_of n.by; entry = member_of n.member }
