use Rattle.std.proofs.Common.{◌≡◌, drop}
use Rattle.al_rules_formats.specs.Private.PatternStates.{read_all}
use Rattle.al_rules_formats.specs.declared.patterns.State.TheVariants.{FirstItem}
use Rattle.al_rules_formats.proofs.patterns.are_items.Given as goal

-- reading the rest from the present state gives what reading all from the first state gives
abbrev pub invariant-loop-c : goal.invariant-loop-c
invariant-loop-c l = read_all l.state (drop l.c-index l.characters) ≡ read_all FirstItem l.characters
