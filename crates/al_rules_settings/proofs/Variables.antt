-- Environment variables whose names are all valid have no fault.
use Rattle.std.proofs.Common.{◌≡◌, refl, Bool, true, false, ℕ, List, [], ◌∷◌, ◌++◌, map, if◌then◌else◌}
use Rattle.std.proofs.lemmas.Bool.{and_parts}
use Rattle.std.proofs.lemmas.Grind.{flat_map-append}
use Rattle.std.specs.List.{flat_map, list_all}
use Rattle.al_base.specs.Names.{among}
use Rattle.al_scalar.specs.Scalar.{Scalar}
use Rattle.al_yaml_tree.specs.Node.{Node}
use Rattle.al_yaml_tree.specs.View.{entry_view}
use Rattle.al_yaml_tree.specs.declared.node.Entry.{Entry}
use Rattle.al_tree.specs.Keys.{key_of}
use Rattle.al_tree.specs.Values.{firsts_by}
use Rattle.al_rules_formats.specs.Names.{is_variable}
use Rattle.al_rules_settings.specs.Settings.{variable_faults}

no_fault : (repeats : Bool) (e : Scalar × Node) → is_variable (key_of e) ≡ true → flat_map variable_faults (if repeats then [] else e ∷ []) ≡ []
no_fault true e h = refl
no_fault false e h = rw h refl

pub no_faults : (seen : List (List ℕ)) (es : List Entry) → list_all (λ e. is_variable (key_of (entry_view e))) es ≡ true
    → flat_map variable_faults (firsts_by among seen (map entry_view es)) ≡ []
no_faults seen [] h = refl
no_faults seen (e ∷ es) h =
    let k = key_of (entry_view e) in
    let parts = and_parts (is_variable k) (list_all (λ e. is_variable (key_of (entry_view e))) es) h in
    let here = if among seen k then [] else entry_view e ∷ [] in
    rw (flat_map-append variable_faults here (firsts_by among (seen ++ k ∷ []) (map entry_view es)), no_fault (among seen k) (entry_view e) parts.0)
    (no_faults (seen ++ k ∷ []) es parts.1)
