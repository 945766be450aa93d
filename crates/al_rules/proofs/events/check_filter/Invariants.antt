use Rattle.std.proofs.Common.{◌≡◌, ◌++◌, drop, map}
use Rattle.std.specs.List.{flat_map}
use Rattle.al_base.specs.declared.codes.RuleCode.TheVariants.{WrongPattern}
use Rattle.al_rules_formats.specs.Patterns.{is_pattern}
use Rattle.al_rules_settings.specs.Words.{of_scalar, unless}
use Rattle.al_rules.proofs.events.check_filter.Given as goal

-- the faults so far, then those of the elements left, are the faults on entry, then those of all elements
abbrev pub invariant-loop-scalar : goal.invariant-loop-scalar
invariant-loop-scalar l =
    l.faults ++ flat_map (λ s. unless (is_pattern l.filter (of_scalar s).text) WrongPattern (of_scalar s)) (map (λ s. s.now) (drop l.scalar-index l.scalar-items))
    ≡ l.initial.faults ++ flat_map (λ s. unless (is_pattern l.filter (of_scalar s).text) WrongPattern (of_scalar s)) (map (λ s. s.now) l.scalar-items)
