-- The meaning of the program's sites and calls.
use Rattle.std.specs.Prelude.{ℕ, List, Option, option_map}
use Rattle.std.specs.Borrow.{Bor}
use Rattle.al_yaml_tree.specs.View.{view}
use Rattle.al_check_interfaces.specs.Uses.{Call, Site, call_by}
use Rattle.al_check_interfaces.specs.declared.sites.Site as code_sites
use Rattle.al_check_interfaces.specs.declared.sites.Call as code_calls

abbrev pub bytes_of : Option (Bor (List ℕ)) → Option (List ℕ)
bytes_of o = option_map (λ b. b.now) o

abbrev pub site_of : code_sites.Site → Site
site_of s = record { job = bytes_of s.job; step = s.step; node = view s.node.now }

abbrev pub call_of : code_calls.Call → Call
call_of c = call_by (site_of c.site) c.uses.now
