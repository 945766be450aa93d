-- Calls of the same kind by the same text have the same signature, since the answer depends only on the caller and the text.
use Rattle.std.proofs.Common.{◌≡◌, List, [], ◌∷◌, Bool, true, false, cond, Option, Some, None, ap, map, option_map, refl, sym}
use Rattle.std.specs.Prelude.{ℕ, Contains, IfSome, ◌&&◌}
use Rattle.std.specs.List.{AllByRecursion, cons_option, flat_map}
use Rattle.std.specs.List.Sorted.{IsPermutation}
use Rattle.std.specs.Str.{bytes_eq}
use Rattle.std.proofs.Math.Dec.{eqb}
use Rattle.std.proofs.lemmas.Bool.{and_parts, eqb-true}
use Rattle.std.proofs.lemmas.List.Elements.{All-contains, All-from_recursion}
use Rattle.std.proofs.lemmas.List.Sorted.{Contains-permutation, IsPermutation-sym}
use Rattle.std.proofs.lemmas.Slice.Eq.{bytes_eq-Decides}
use Rattle.al_base.proofs.Elements.{each_both, each_cons}
use Rattle.al_base.specs.contracts.codes.CallerPartialEq.TheImpl as caller_eq
use Rattle.al_base.specs.contracts.faults.SpanPartialEq.TheImpl as span_eq
use Rattle.al_base.specs.declared.codes.Caller.{Caller}
use Rattle.al_base.specs.declared.codes.Caller.TheVariants.{Job, Step}
use Rattle.al_base.specs.declared.faults.Span.{Span}
use Rattle.al_check_interfaces.specs.contracts.interfaces.ParameterKindPartialEq.TheImpl as kind_eq
use Rattle.al_check_interfaces.specs.declared.interfaces.Interface.{Interface}
use Rattle.al_check_interfaces.specs.declared.interfaces.ParameterKind.{ParameterKind}
use Rattle.al_check_interfaces.specs.declared.interfaces.ParameterKind.TheVariants.{Input, Secret}
use Rattle.al_check_interfaces.specs.declared.interfaces.Signature.{Signature}
use Rattle.al_check_interfaces.specs.Uses.{Call, site_caller}
use Rattle.al_check_calls.specs.Answers.{Answered}
use Rattle.al_check_calls.specs.Preconditions.{AreToldByUses}
use Rattle.al_check_calls.specs.CallFaults.{callable_signature}
use Rattle.al_check_calls.specs.Private.Comparing.{CallAlike, Comparison, HaveOneSignature, TellSignatures, call_alike, compared_with}
use Rattle.al_check_calls.specs.Private.Comparing.{comparison_of, comparisons, is_compared}

-- ---- equality tests are exact

kind_exact : (a b : ParameterKind) → kind_eq.ghosts.eq a b ≡ true → a ≡ b
kind_exact Input Input h = refl
kind_exact Secret Secret h = refl
kind_exact _ _ h = absurd cc

caller_exact : (a b : Caller) → caller_eq.ghosts.eq a b ≡ true → a ≡ b
caller_exact Job Job h = refl
caller_exact Step Step h = refl
caller_exact _ _ h = absurd cc

pub span_exact : (a b : Span) → span_eq.ghosts.eq a b ≡ true → a ≡ b
span_exact a b h =
    let p = and_parts (eqb a.start b.start) (eqb a.end b.end) h in
    let e0 = eqb-true a.start b.start p.0 in
    let e1 = eqb-true a.end b.end p.1 in
    λ i. record { start = e0 i; end = e1 i }

pub likeness : (q r : Comparison) → call_alike q r ≡ true → CallAlike q r
likeness q r h =
    let by = caller_eq.ghosts.eq (site_caller q.call.site) (site_caller r.call.site) in
    let text = bytes_eq q.call.text r.call.text in
    let p = and_parts (kind_eq.ghosts.eq q.kind r.kind) (by && text) h in
    let t = and_parts by text p.1 in
    record { kind = kind_exact _ _ p.0; by = caller_exact _ _ t.0; text = (bytes_eq-Decides q.call.text r.call.text).0 t.1 }

-- ---- the answer determines the signature

module _ (answer : Caller → List ℕ → Option Interface) where
  abbrev IsTold : Comparison → Type 0
  IsTold q = callable_signature (site_caller q.call.site) (answer (site_caller q.call.site) q.call.text) ≡ Some q.signature

  told_if : (k : ParameterKind) (c : Call) (b : Bool) (o : Option Signature) → callable_signature (site_caller c.site) (answer (site_caller c.site) c.text) ≡ o →
      IfSome (option_map (compared_with k c) (cond b o None)) IsTold
  told_if k c false o is = tt
  told_if k c true None is = tt
  told_if k c true (Some s) is = is

  abbrev IsToldBy : Answered → Type 0
  IsToldBy a = a.answer ≡ answer (site_caller a.call.site) a.call.text

  one_told : (k : ParameterKind) (a : Answered) → IsToldBy a → IfSome (comparison_of k a) IsTold
  one_told k a is =
      told_if k a.call (is_compared k (site_caller a.call.site) a.call.site.node) (callable_signature (site_caller a.call.site) a.answer) (ap (callable_signature (site_caller a.call.site)) (sym is))

  all_told : (as' : List Answered) → AllByRecursion IsToldBy as' → AllByRecursion IsTold (flat_map comparisons as')
  all_told [] h = tt
  all_told (a ∷ as') h =
      each_both IsTold (comparisons a) (flat_map comparisons as')
      (each_cons IsTold (comparison_of Input a) (cons_option (comparison_of Secret a) []) (one_told Input a h.0) (each_cons IsTold (comparison_of Secret a) [] (one_told Secret a h.0) tt))
      (all_told as' h.1)

  pair_told : (q r : Comparison) → IsTold q → IsTold r → HaveOneSignature q r
  pair_told q r a b by text =
      let same : callable_signature (site_caller q.call.site) (answer (site_caller q.call.site) q.call.text)
      ≡ callable_signature (site_caller r.call.site) (answer (site_caller r.call.site) r.call.text) =
      λ i. callable_signature (by i) (answer (by i) (text i)) in
      cc

pub tell_signatures : (as' : List Answered) → AreToldByUses as' → TellSignatures (flat_map comparisons as')
tell_signatures as' told q r a b =
    let qs = flat_map comparisons as' in
    let all = All-from_recursion (IsTold told.answer) qs (all_told told.answer as' told.told) in
    pair_told told.answer q r (All-contains (IsTold told.answer) qs q all a) (All-contains (IsTold told.answer) qs r all b)

-- ---- a relation between any two elements of a list

module _ {Y : Type 0} (R : Y → Y → Type 0) where
  abbrev Tell : List Y → Type 0
  Tell ys = (a b : Y) → Contains ys a → Contains ys b → R a b

  pub tell_permuted : (xs ys : List Y) → IsPermutation xs ys → Tell xs → Tell ys
  tell_permuted xs ys p tell a b x y = tell a b (Contains-permutation ys xs a (IsPermutation-sym xs ys p) x) (Contains-permutation ys xs b (IsPermutation-sym xs ys p) y)

  -- between the element before, if there is one, and the next
  pub tell_next : {X : Type 0} (f : X → Y) (xs : List X) (o : Option X) (one : X) → Tell (map f xs) → IfSome o (λ p. Contains (map f xs) (f p)) →
      Contains (map f xs) (f one) → IfSome o (λ p. R (f p) (f one))
  tell_next f xs None one tell before at = tt
  tell_next f xs (Some p) one tell before at = tell (f p) (f one) before at
