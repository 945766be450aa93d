-- An entry that may have no expression has no place.
use Rattle.std.proofs.Common.{◌≡◌, ◌∙◌, ap, arith, refl, sym, nat_eq, length, List, [], ◌∷◌, ◌++◌, map, ℕ, codes, Bool, true, false, ◌==◌}
use Rattle.std.proofs.Math.Bool.{and-false}
use Rattle.std.proofs.lemmas.Bool.{or_parts}
use Rattle.std.proofs.lemmas.Bool.Decides.{nat_tests}
use Rattle.std.proofs.lemmas.List.{length-append}
use Rattle.std.proofs.lemmas.List.Elements.{filter_map-append}
use Rattle.std.proofs.lemmas.Slice.Eq.{bytes_eq-Decides}
use Rattle.std.specs.List.{ends_with, list_any}
use Rattle.std.specs.Str.{bytes_eq}
use Rattle.al_scalar.specs.Scalar.{Scalar, text_of}
use Rattle.al_yaml_tree.specs.Node.{Node, scalar}
use Rattle.al_yaml_tree.specs.View.{entries_of, entry_view}
use Rattle.al_yaml_tree.specs.declared.node.Entry.{Entry}
use Rattle.al_tree.specs.Faults.{Standing, expected, has_chunk, standing}
use Rattle.al_tree.specs.Keys.{key_of}
use Rattle.al_base.specs.Names.{among}
use Rattle.al_tree.specs.Table.{Keys}
use Rattle.al_tree.specs.declared.files.FileKind.{FileKind}
use Rattle.al_check_places.specs.Places.{entry_places, places_of_entries, places_of_node}
use Rattle.al_check_places.specs.Private.Walks.{may_have_expression}
use Rattle.al_check_places.specs.Ways.{WayStep, under, conditions, is_one, keys_of, step_key}

-- a key that doesn't end in `if` is none that does
other : (name key : List ℕ) → ends_with nat_eq name (codes "if") ≡ true → ends_with nat_eq key (codes "if") ≡ false → bytes_eq name key ≡ false
other name key ends not_ends =
    let same : bytes_eq name key ≡ true → ends_with nat_eq key (codes "if") ≡ true =
    λ e. ap (λ k. ends_with nat_eq k (codes "if")) (sym ((bytes_eq-Decides name key).0 e)) ∙ ends in
    grind (arith, nat_tests, same, not_ends)

-- all keys of conditions end in `if`
no_condition : (ks : List (List ℕ)) (key : List ℕ) → ends_with nat_eq key (codes "if") ≡ false → is_one conditions (ks ++ key ∷ []) ≡ false
no_condition [] key h = refl
no_condition (a ∷ []) key h =
    rw (other (codes "pre-if") key refl h, other (codes "post-if") key refl h, and-false (bytes_eq (codes "runs") a)) refl
no_condition (a ∷ b ∷ []) key h =
    rw (other (codes "if") key refl h, and-false (bytes_eq (codes "steps") b), and-false (bytes_eq (codes "jobs") a), and-false (bytes_eq (codes "runs") a)) refl
no_condition (a ∷ b ∷ c ∷ []) key h =
    rw (other (codes "if") key refl h, and-false (bytes_eq (codes "steps") c), and-false (bytes_eq (codes "jobs") a)) refl
no_condition (a ∷ b ∷ c ∷ d ∷ ks) key h =
    let n = length (a ∷ b ∷ c ∷ d ∷ ks ++ key ∷ []) in
    let two : (2 == n) ≡ false = grind (arith, nat_tests) in
    let three : (3 == n) ≡ false = grind (arith, nat_tests) in
    let four : (4 == n) ≡ false = grind (arith, nat_tests, length-append ks (key ∷ [])) in
    rw (two, three, four) refl

pub no_place : (kind : FileKind) (st : Standing) (way : List WayStep) (key : Scalar) (node : Node) → may_have_expression (key, node) ≡ false
    → entry_places st (λ s. places_of_node kind s false (way ++ under (text_of key) ∷ []) node) ≡ []
no_place kind (expected shape clash) way key (scalar s) h =
    let parts = or_parts (ends_with nat_eq (text_of key) (codes "if")) (has_chunk (text_of s)) h in
    rw (filter_map-append step_key way (under (text_of key) ∷ []), no_condition (keys_of way) (text_of key) parts.0, parts.1) refl
no_place kind (expected shape clash) way key node h = absurd cc
no_place kind st way key node h = refl

pub no_places : (kind : FileKind) (ks : Keys) (seen : List (List ℕ)) (all : List ℕ → Bool) (way : List WayStep) (es : List Entry)
    → list_any (λ e. may_have_expression (entry_view e)) es ≡ false → places_of_entries kind ks seen all way (entries_of (map entry_view es)) ≡ []
no_places kind ks seen all way [] h = refl
no_places kind ks seen all way (e ∷ es) h =
    let k = key_of (entry_view e) in
    let parts = or_parts (may_have_expression (entry_view e)) (list_any (λ e. may_have_expression (entry_view e)) es) h in
    rw (no_place kind (standing ks (among seen) all k) way (entry_view e).0 (entry_view e).1 parts.0) (no_places kind ks (seen ++ k ∷ []) all way es parts.1)
