use Rattle.std.proofs.Common.{◌≡◌, ◌++◌, drop, map, take}
use Rattle.std.specs.List.{flat_map}
use Rattle.al_base.specs.declared.codes.RuleCode.TheVariants.{WrongId}
use Rattle.al_rules_formats.specs.Names.{is_id}
use Rattle.al_rules_settings.specs.Ids.{ids_faults, repeated_faults}
use Rattle.al_rules_settings.specs.Words.{unless}
use Rattle.al_rules_settings.specs.Views.{named_of}
use Rattle.al_rules_settings.proofs.ids.check_ids.Given as goal

-- what was added, and the faults of what is left, are the faults of all
abbrev pub invariant-loop-id : goal.invariant-loop-id
invariant-loop-id l =
    l.faults ++ flat_map (λ n. unless (is_id n.text) WrongId n) (map named_of (drop l.id-index l.ids))
    ≡ l.fn.faults ++ flat_map (λ n. unless (is_id n.text) WrongId n) (map named_of l.ids)

abbrev pub invariant-loop-i : goal.invariant-loop-i
invariant-loop-i l =
    l.faults ++ repeated_faults (map (λ n. n.text) (map named_of (take l.i l.ids))) (map named_of (drop l.i l.ids))
    ≡ l.fn.faults ++ ids_faults (map named_of l.ids)
