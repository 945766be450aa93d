use Rattle.std.proofs.Common.{◌≡◌, ◌++◌, map}
use Rattle.std.specs.Prelude.{All}
use Rattle.memchr.specs.Find.{OccursAt}
use Rattle.al_scalar.specs.Scalar.{text_of}
use Rattle.al_rules_settings.specs.Commands.{command_fault, one_command}
use Rattle.al_rules_settings.proofs.commands.check_command.Given as goal

abbrev pub invariant-loop-at : goal.invariant-loop-at
invariant-loop-at l = record {
  all : l.faults ++ map (command_fault l.script l.start l.name) l.at-iterator ≡ l.fn.faults ++ one_command l.script (l.start, l.name);
  occur : All (OccursAt (text_of l.script) l.start) l.at-iterator;
}
