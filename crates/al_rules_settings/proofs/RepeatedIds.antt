-- The ids that repeat an earlier one, with one id more.
use Rattle.std.proofs.Common.{◌≡◌, ◌<◌, ◌+◌, ◌++◌, ◌∷◌, [], ℕ, Bool, List, length, get_or, ap, append_assoc, drop, map, refl, sym, take, ◌∙◌}
use Rattle.std.specs.Prelude.{is_none}
use Rattle.std.proofs.lemmas.List.{get_or_default}
use Rattle.al_base.specs.NamePlaces.{TellsFirsts, name_place}
use Rattle.al_base.specs.declared.codes.RuleCode.TheVariants.{RepeatedId}
use Rattle.al_base.specs.declared.faults.Fault.{Fault}
use Rattle.al_tree.proofs.KeyLemmas.{told_first}
use Rattle.al_tree.proofs.Lists.{left_next, text_there, texts_next}
use Rattle.al_rules_settings.specs.Ids.{repeated_faults}
use Rattle.al_rules_settings.specs.Views.{named_of}
use Rattle.al_rules_settings.specs.Words.{unless}
use Rattle.al_rules_settings.specs.declared.reports.Named.{Named}

abbrev texts : List Named → List (List ℕ)
texts ids = map (λ n. n.text) (map named_of ids)

pub repeated_next : (first : ℕ → Bool) (ids : List Named) (i : ℕ) (d : Named) (told : Bool) (mid new all : List Fault) → TellsFirsts (name_place (texts ids)) (texts ids) first → told ≡ first i
    → i < length ids → mid ++ repeated_faults (texts (take i ids)) (map named_of (drop i ids)) ≡ all
    → new ≡ mid ++ unless told RepeatedId (named_of (get_or ids i d))
    → new ++ repeated_faults (texts (take (i + 1) ids)) (map named_of (drop (i + 1) ids)) ≡ all
repeated_next first ids i d told mid new all firsts is within before added =
    let id = get_or ids i d in
    let text = id.text.now in
    let here : id ≡ get_or ids i id = get_or_default ids i d id within in
    let seen = texts (take i ids) in
    let after = texts (take (i + 1) ids) in
    let left = map named_of (drop (i + 1) ids) in
    let more : after ≡ seen ++ text ∷ [] = texts_next (λ n. n.text) named_of ids i id within here in
    let there : get_or (texts ids) i [] ≡ text = text_there (λ n. n.text) named_of ids ids i id refl within here in
    let right : told ≡ is_none (name_place seen text) = is ∙ told_first (λ n. n.text) named_of ids i text first firsts within there in
    ap (λ l. l ++ repeated_faults after left) added
    ∙ ap (λ b. (mid ++ unless b RepeatedId (named_of id)) ++ repeated_faults after left) right
    ∙ ap (λ ts. (mid ++ unless (is_none (name_place seen text)) RepeatedId (named_of id)) ++ repeated_faults ts left) more
    ∙ append_assoc mid (unless (is_none (name_place seen text)) RepeatedId (named_of id)) (repeated_faults (seen ++ text ∷ []) left)
    ∙ ap (λ l. mid ++ repeated_faults seen l) (sym (left_next named_of ids i id within here))
    ∙ before
