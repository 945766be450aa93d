-- The meaning of the program's own type.
use Rattle.al_rules_settings.specs.Words.{Named}
use Rattle.al_rules_settings.specs.declared.reports.Named as rust

abbrev pub named_of : rust.Named → Named
named_of n = record { text = n.text.now; span = n.span }
