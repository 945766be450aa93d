-- Faults of undefined names, one after another. A name that equals the one before it adds no fault.
use Rattle.std.proofs.Common.{◌≡◌, ◌∙◌, List, [], ◌∷◌, ◌++◌, true, cond, ap, map, refl, subst, sym}
use Rattle.std.specs.Prelude.{Contains, ◌&&◌, ◌||◌}
use Rattle.std.specs.List.{flat_map}
use Rattle.std.specs.List.Sorted.{IsPermutation}
use Rattle.std.specs.Option.{option_map_or}
use Rattle.std.specs.Str.{bytes_eq}
use Rattle.std.specs.Str.Lossy.{utf8_lossy}
use Rattle.std.proofs.lemmas.Bool.{and_parts}
use Rattle.std.proofs.lemmas.Grind.{flat_map-append}
use Rattle.std.proofs.lemmas.List.Elements.{All-contains, All-map, Contains-append_right}
use Rattle.std.proofs.lemmas.List.Folds.{flat_map-map}
use Rattle.std.proofs.lemmas.List.Sorted.{IsPermutation-map}
use Rattle.std.proofs.lemmas.Slice.Eq.{bytes_eq-Decides}
use Rattle.al_base.proofs.Growing.{same_set}
use Rattle.al_base.proofs.Sets.{from_flat_map, set_after, set_permuted, set_there, set_trans}
use Rattle.al_base.specs.Growth.{SameSet}
use Rattle.al_base.specs.contracts.faults.SpanPartialEq.TheImpl as span_eq
use Rattle.al_base.specs.declared.codes.Code.TheVariants as kind_of_code
use Rattle.al_base.specs.declared.faults.Fault.{Fault}
use Rattle.al_scalar.specs.Scalar.{Scalar}
use Rattle.al_yaml_tree.specs.Node.{Node}
use Rattle.al_tree.specs.Keys.{key_of}
use Rattle.al_check_interfaces.specs.Kinds.{parameters_of}
use Rattle.al_check_interfaces.specs.Parameters.{has_parameter}
use Rattle.al_check_calls.specs.CallFaults.{given_by, is_free_for, undefined_code}
use Rattle.al_check_calls.specs.Private.ComparisonViews.{name_of}
use Rattle.al_check_calls.specs.Private.Comparing.{AreThere, Comparison, GivenName, HaveOneSignature, TellSignatures, TellSignaturesBy, call_alike}
use Rattle.al_check_calls.specs.Private.Comparing.{is_same_name_given, name_by, names_by, undefined_at, undefined_of}
use Rattle.al_check_calls.specs.declared.undefined.GivenName as code
use Rattle.al_check_calls.proofs.Alike.{likeness, span_exact, tell_permuted}

-- ---- the names that calls give

all_names : (qs : List Comparison) → flat_map undefined_at (flat_map names_by qs) ≡ flat_map undefined_of qs
all_names [] = refl
all_names (q ∷ qs) =
    flat_map-append undefined_at (names_by q) (flat_map names_by qs)
    ∙ λ i. flat_map-map undefined_at (name_by q) (given_by q.kind q.call.site.node) i ++ all_names qs i

given_by_one : (q : Comparison) (es : List (Scalar × Node)) (n : GivenName) → Contains (map (name_by q) es) n → q ≡ n.by
given_by_one q es n = All-contains (λ m. q ≡ m.by) (map (name_by q) es) n (All-map (λ m. q ≡ m.by) (name_by q) es (λ k d within. refl))

tell_names : (qs : List Comparison) → TellSignatures qs → TellSignaturesBy (flat_map names_by qs)
tell_names qs tell n m a b =
    from_flat_map names_by qs n (HaveOneSignature n.by m.by)
    (λ q at c. from_flat_map names_by qs m (HaveOneSignature n.by m.by)
    (λ r at' c'. subst (λ x. HaveOneSignature x m.by) (given_by_one q (given_by q.kind q.call.site.node) n c)
    (subst (λ y. HaveOneSignature q y) (given_by_one r (given_by r.kind r.call.site.node) m c') (tell q r at at'))) b) a

-- the names found, after sorting
pub names_told : (qs : List Comparison) (found given : List code.GivenName) → map name_of found ≡ flat_map names_by qs → IsPermutation found given →
    TellSignatures qs → TellSignaturesBy (map name_of given)
names_told qs found given are order tell =
    tell_permuted (λ n m. HaveOneSignature n.by m.by) (map name_of found) (map name_of given) (IsPermutation-map name_of found given order)
    (subst TellSignaturesBy (sym are) (tell_names qs tell))

pub names_found : (qs : List Comparison) (found given : List code.GivenName) (old new : List Fault) → map name_of found ≡ flat_map names_by qs → IsPermutation found given →
    SameSet new (old ++ flat_map undefined_at (map name_of given)) → SameSet new (old ++ flat_map undefined_of qs)
names_found qs found given old new are order is =
    let moved = set_permuted undefined_at (map name_of found) (map name_of given) (IsPermutation-map name_of found given order) in
    let all : flat_map undefined_at (map name_of found) ≡ flat_map undefined_of qs = ap (flat_map undefined_at) are ∙ all_names qs in
    set_trans new (old ++ flat_map undefined_at (map name_of given)) (old ++ flat_map undefined_of qs) is
    (set_after old (flat_map undefined_at (map name_of given)) (flat_map undefined_of qs)
    (set_trans (flat_map undefined_at (map name_of given)) (flat_map undefined_at (map name_of found)) (flat_map undefined_of qs) moved (same_set _ _ all)))

-- faults that were added are in the list
pub added_there : (old new more : List Fault) → SameSet new (old ++ more) → AreThere more new
added_there old new more s f c = (s f).1 (Contains-append_right old more f c)

-- ---- the same name at the same position

same_name : (n m : GivenName) → HaveOneSignature n.by m.by → is_same_name_given n m ≡ true → undefined_at n ≡ undefined_at m
same_name n m tells h =
    let text = bytes_eq (key_of n.entry) (key_of m.entry) in
    let place = span_eq.ghosts.eq n.entry.0.span m.entry.0.span in
    let p = and_parts (call_alike n.by m.by) (text && place) h in
    let t = and_parts text place p.1 in
    let alike = likeness n.by m.by p.0 in
    let name : key_of n.entry ≡ key_of m.entry = (bytes_eq-Decides (key_of n.entry) (key_of m.entry)).0 t.0 in
    let at = span_exact n.entry.0.span m.entry.0.span t.1 in
    let kind = alike.kind in
    let by = alike.by in
    let uses = alike.text in
    let one = tells by uses in
    λ i. cond (has_parameter (parameters_of (kind i) (one i)) (name i) || is_free_for (kind i) (by i) (name i)) [] ((record {
      span = at i;
      code = kind_of_code.Call (undefined_code (kind i)) (by i);
      args = map utf8_lossy (name i ∷ option_map_or (λ n. n) (one i).name (uses i) ∷ []);
    }) ∷ [])

pub same_there : (n m : GivenName) (out : List Fault) → HaveOneSignature n.by m.by → AreThere (undefined_at n) out → is_same_name_given n m ≡ true →
    SameSet out (out ++ undefined_at m)
same_there n m out tells there h =
    let same = same_name n m tells h in
    set_there out (undefined_at m) (λ f c. there f (subst (λ l. Contains l f) (sym same) c))
