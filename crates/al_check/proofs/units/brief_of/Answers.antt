use Rattle.std.proofs.Common.{◌∙◌}
use Rattle.al_check.proofs.Given.{calls_kept_of, interface_shown}
use Rattle.al_check.specs.declared.units.Unit.TheVariants as unit
use Rattle.al_check.proofs.units.brief_of.Goals as goal

pub returns : goal.returns
returns c = λ kind bytes is. record {
  interface = c.in_ok-interface.ensures ∙ interface_shown c.args.file kind bytes is;
  calls = calls_kept_of (unit.Whole c.args.file) kind bytes is;
}
