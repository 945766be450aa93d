-- Declared inputs have distinct names, so none is dropped from a list of fields.
use Rattle.std.proofs.Common.{◌≡◌, ◌||◌, List, [], ◌∷◌, ◌++◌, ℕ, Bool, true, false, Option, Some, None, refl, sym, ap, ◌∙◌, append-nil, append_assoc, map}
use Rattle.std.proofs.Math.Bool.{or-false}
use Rattle.std.proofs.lemmas.Bool.{or_left}
use Rattle.std.proofs.lemmas.List.Folds.{list_any-append}
use Rattle.std.specs.List.{list_any}
use Rattle.std.specs.Option.{option_map_or}
use Rattle.std.specs.Prelude.{codes, if◌then◌else◌, option_and_then}
use Rattle.al_base.specs.Names.{same_name}
use Rattle.al_scalar.specs.Scalar.{Scalar}
use Rattle.al_tree.specs.Keys.{key_of}
use Rattle.al_tree.specs.Values.{entries_in, firsts_by, value_at, value_below}
use Rattle.al_tree.specs.Declarations.{declared_in, named_among}
use Rattle.al_check_objects.specs.Inputs.{input_type, event_inputs, input_field}
use Rattle.al_tree.specs.Inputs.{input_of}
use Rattle.al_types.specs.Puts.{TypedName, firsts, put_or_fuse, put_all, put_new}
use Rattle.al_types.specs.Types.{Type', fuse_type}
use Rattle.al_types.proofs.GatheredFields.{firsts_distinct}
use Rattle.al_yaml_tree.specs.Node.{Node}
use Rattle.al_check_objects.specs.Objects.{strictly}
use Rattle.al_check_objects.proofs.FieldLists.{put_together}

-- whether a field has the name
abbrev has_name : List TypedName → List ℕ → Bool
has_name ts n = list_any (λ q. same_name q.0 n) ts

any_more : {X : Type 0} (test : X → Bool) (xs : List X) (x : X) → list_any test (xs ++ x ∷ []) ≡ list_any test xs || test x
any_more test xs x = list_any-append test xs (x ∷ []) ∙ ap (λ b. list_any test xs || b) (or-false (test x))

last_step : (b had : Bool) (q p : TypedName) (qs more : List TypedName) → (b || had) ≡ false → (had ≡ false → more ≡ qs ++ p ∷ []) →
    (if b then q ∷ qs else q ∷ more) ≡ (q ∷ qs) ++ p ∷ []
last_step true had q p qs more e h = absurd cc
last_step false had q p qs more e h = ap (λ us. q ∷ us) (h e)

-- a field with a new name is appended
put_last : (ts : List TypedName) (p : TypedName) → has_name ts p.0 ≡ false → put_new ts p ≡ ts ++ p ∷ []
put_last [] p e = refl
put_last (q ∷ qs) p e = last_step (same_name q.0 p.0) (has_name qs p.0) q p qs (put_new qs p) e (put_last qs p)

-- all names of the fields are in the list
abbrev AreAmong : List TypedName → List (List ℕ) → Type 0
AreAmong ts ns = (n : List ℕ) → has_name ts n ≡ true → named_among ns n ≡ true

either : (a b c : Bool) → (a ≡ true → b ≡ true) → (a || c) ≡ true → (b || c) ≡ true
either true b c h e = ap (λ x. x || c) (h refl)
either false true c h e = refl
either false false c h e = e

among_more : (ts : List TypedName) (ns : List (List ℕ)) (p : TypedName) → AreAmong ts ns → AreAmong (ts ++ p ∷ []) (ns ++ p.0 ∷ [])
among_more ts ns p h n e =
    any_more (λ m. same_name m n) ns p.0
    ∙ either (has_name ts n) (named_among ns n) (same_name p.0 n) (h n) (sym (any_more (λ (q : TypedName). same_name q.0 n) ts p) ∙ e)

among_wider : (ts : List TypedName) (ns : List (List ℕ)) (m : List ℕ) → AreAmong ts ns → AreAmong ts (ns ++ m ∷ [])
among_wider ts ns m h n e = any_more (λ k. same_name k n) ns m ∙ or_left (named_among ns n) (same_name m n) (h n e)

none_among : (a b : Bool) → (a ≡ true → b ≡ true) → b ≡ false → a ≡ false
none_among true b h e = absurd (cc (h refl))
none_among false b h e = refl

module _ (ty : Scalar × Node → Type') where
  abbrev field : Scalar × Node → TypedName
  field e = (key_of e, ty e)

  named_step : (seen : List (List ℕ)) (ts : List TypedName) (e : Scalar × Node) (rest : List (Scalar × Node)) (b : Bool) → named_among seen (key_of e) ≡ b →
      AreAmong ts seen → ((us : List TypedName) → AreAmong us (seen ++ key_of e ∷ []) → put_all put_new us (map field rest) ≡ us ++ map field rest) →
      put_all put_new ts (map field ((if b then [] else e ∷ []) ++ rest)) ≡ ts ++ map field ((if b then [] else e ∷ []) ++ rest)
  named_step seen ts e rest true is h more = more ts (among_wider ts seen (key_of e) h)
  named_step seen ts e rest false is h more =
      let after = put_last ts (field e) (none_among (has_name ts (key_of e)) (named_among seen (key_of e)) (h (key_of e)) is) in
      ap (λ us. put_all put_new us (map field rest)) after
      ∙ more (ts ++ field e ∷ []) (among_more ts seen (field e) h)
      ∙ append_assoc ts (field e ∷ []) (map field rest)

  put_named : (seen : List (List ℕ)) (ts : List TypedName) (es : List (Scalar × Node)) → AreAmong ts seen →
      put_all put_new ts (map field (firsts_by named_among seen es)) ≡ ts ++ map field (firsts_by named_among seen es)
  put_named seen ts [] h = sym (append-nil ts)
  put_named seen ts (e ∷ es) h =
      named_step seen ts e (firsts_by named_among (seen ++ key_of e ∷ []) es) (named_among seen (key_of e)) refl h
      (λ us g. put_named (seen ++ key_of e ∷ []) us es g)

once : (o : Option Node) → firsts (map input_field (option_map_or declared_in o [])) ≡ map input_field (option_map_or declared_in o [])
once None = refl
once (Some n) = put_named (λ e. input_type (input_of e.1)) [] [] (entries_in n) (λ m e. absurd cc)

inputs_once : (event : List ℕ) (root : Node) → firsts (event_inputs event root) ≡ event_inputs event root
inputs_once event root = once (value_below (codes "on" ∷ event ∷ codes "inputs" ∷ []) root)

-- fusing the inputs of two events, as objects
pub both_events : (a b : List ℕ) (root : Node) →
    fuse_type (strictly (firsts (event_inputs a root))) (strictly (firsts (event_inputs b root)))
    ≡ strictly (put_all put_or_fuse (event_inputs a root) (event_inputs b root))
both_events a b root =
    sym (put_together (firsts (event_inputs a root)) (firsts (event_inputs b root)) (firsts_distinct (event_inputs b root)))
    ∙ (λ d. strictly (put_all put_or_fuse (inputs_once a root d) (inputs_once b root d)))

itself : (o : Option Node) → o ≡ option_and_then (λ n. Some n) o
itself None = refl
itself (Some n) = refl

-- the value below a path of one key is the value at this key
pub below_itself : (k : List ℕ) (n : Node) → value_at k n ≡ value_below (k ∷ []) n
below_itself k n = itself (value_at k n)
