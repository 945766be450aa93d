-- The fault of a call on a call cycle, by its site.
use Rattle.std.specs.Prelude.{[], ◌∷◌}
use Rattle.al_base.specs.declared.faults.Fault.{Fault}
use Rattle.al_lint.specs.declared.lint.Site.{Site}

abbrev pub site_fault : Site → Fault
site_fault s = record { span = s.span; code = s.code; args = s.text.now ∷ [] }
