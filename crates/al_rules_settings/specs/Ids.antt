-- Faults of the keys of jobs and the ids of steps.
use Rattle.std.specs.Prelude.{ℕ, List, [], ◌∷◌, ◌++◌, is_none}
use Rattle.std.specs.List.{flat_map}
use Rattle.al_base.specs.NamePlaces.{name_place}
use Rattle.al_base.specs.declared.codes.RuleCode.TheVariants.{RepeatedId, WrongId}
use Rattle.al_base.specs.declared.faults.Fault.{Fault}
use Rattle.al_rules_formats.specs.Names.{is_id}
use Rattle.al_rules_settings.specs.Words.{Named, unless}

-- each id that equals an earlier one, ignoring ASCII case, after ids with these texts
abbrev pub repeated_faults : List (List ℕ) → List Named → List Fault
repeated_faults seen [] = []
repeated_faults seen (n ∷ ns) = unless (is_none (name_place seen n.text)) RepeatedId n
    ++ repeated_faults (seen ++ n.text ∷ []) ns

-- invalid ids, and repeated ones
abbrev pub ids_faults : List Named → List Fault
ids_faults ids = flat_map (λ n. unless (is_id n.text) WrongId n) ids ++ repeated_faults [] ids
