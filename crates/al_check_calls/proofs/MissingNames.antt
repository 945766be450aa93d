-- Missing names, call by call. After a call by the same `uses`, only the parameters that all such calls so far have given are looked up.
use Rattle.std.proofs.Common.{◌≡◌, ◌∙◌, ◌⊎◌, ⊎_elim, inl, inr, List, [], ◌∷◌, ◌++◌, Bool, true, false, cond, Option, Some, None}
use Rattle.std.proofs.Common.{ap, append-nil, map, option_map, refl, subst, sym}
use Rattle.std.specs.Prelude.{Contains}
use Rattle.std.specs.List.{AllByRecursion, cons_option, flat_map}
use Rattle.std.specs.List.Sorted.{IsPermutation}
use Rattle.std.specs.Option.{option_map_or}
use Rattle.std.specs.Str.Lossy.{utf8_lossy}
use Rattle.std.proofs.lemmas.Bool.{and_parts}
use Rattle.std.proofs.lemmas.Grind.{flat_map-append}
use Rattle.std.proofs.lemmas.List.Elements.{All-contains, All-from_recursion, Contains-append_cases, Contains-append_left, Contains-append_right}
use Rattle.std.proofs.lemmas.List.Sorted.{IsPermutation-map}
use Rattle.al_base.proofs.Elements.{each_either}
use Rattle.al_base.proofs.Growing.{same_set}
use Rattle.al_base.proofs.Sets.{from_flat_map, head_in, in_flat_map, set_after, set_permuted, set_trans}
use Rattle.al_base.specs.Growth.{SameSet}
use Rattle.al_base.specs.contracts.faults.SpanPartialEq.TheImpl as span_eq
use Rattle.al_base.specs.declared.codes.Code.TheVariants as kind_of_code
use Rattle.al_base.specs.declared.faults.Fault.{Fault}
use Rattle.al_check_interfaces.specs.Kinds.{parameters_of}
use Rattle.al_check_interfaces.specs.Parameters.{mandatory_of}
use Rattle.al_check_interfaces.specs.declared.interfaces.Parameter.{Parameter}
use Rattle.al_check_interfaces.specs.declared.interfaces.ParameterKind.{ParameterKind}
use Rattle.al_check_interfaces.specs.declared.interfaces.ParameterKind.TheVariants.{Input, Secret}
use Rattle.al_check_interfaces.specs.declared.interfaces.Signature.{Signature}
use Rattle.al_check_interfaces.specs.Uses.{Call}
use Rattle.al_check_calls.specs.Answers.{Answered}
use Rattle.al_check_calls.specs.CallFaults.{missing_code, names_against}
use Rattle.al_check_calls.specs.Private.ComparisonViews.{compared_of}
use Rattle.al_check_calls.specs.Private.Comparing.{Comparison, HaveOneSignature, IsSaid, call_alike, compared_with, comparison_of, comparisons}
use Rattle.al_check_calls.specs.Private.Comparing.{fault_unless_given, faults_of_names, gives, is_by_same_uses, mandatory_for, missing_fault, missing_of}
use Rattle.al_check_calls.specs.Private.Comparing.{names_of_kind, signature_for}
use Rattle.al_check_calls.specs.Private.Comparing.{name_faults_of, parameter_if_given, undefined_of}
use Rattle.al_check_calls.specs.declared.comparisons.Comparison as code
use Rattle.al_check_calls.proofs.Alike.{likeness, span_exact}
use Rattle.al_check_calls.proofs.Parts.{in_parts}

-- ---- one more call

-- an element of a list whose elements all equal `x`
only : {X : Type 0} (x y : X) (l : List X) → AllByRecursion (λ z. x ≡ z) l → Contains l y → x ≡ y
only x y l all = All-contains (λ z. x ≡ z) l y (All-from_recursion (λ z. x ≡ z) l all)

module _ (q : Comparison) (left : List Parameter) (old : List Fault) (before : IsSaid q left old) where
  abbrev found : List Fault
  found = flat_map (fault_unless_given q) left

  abbrev rest : List Parameter
  rest = flat_map (parameter_if_given q) left

  of_one : (p : Parameter) (f : Fault) → Contains (mandatory_for q) p → Contains (fault_unless_given q p) f → Contains (old ++ found) f
  of_one p f at c =
      ⊎_elim (λ l. Contains-append_right old found f (in_flat_map (fault_unless_given q) left p f l c))
      (λ o. Contains-append_left old found f (subst (λ g. Contains old g) (only (missing_fault q p) f _ (each_either _ (gives q p) [] (missing_fault q p ∷ []) tt (refl, tt)) c) o)) (before.said p at)

  all_found : SameSet (old ++ found) (old ++ flat_map (fault_unless_given q) (mandatory_for q))
  all_found f = (
    λ c. ⊎_elim (λ a. Contains-append_left old _ f a)
        (λ b. Contains-append_right old _ f (from_flat_map (fault_unless_given q) left f (Contains (flat_map (fault_unless_given q) (mandatory_for q)) f)
        (λ p at c'. in_flat_map (fault_unless_given q) (mandatory_for q) p f (before.among p at) c') b)) (Contains-append_cases old found f c),
    λ c. ⊎_elim (λ a. Contains-append_left old found f a) (λ b. from_flat_map (fault_unless_given q) (mandatory_for q) f (Contains (old ++ found) f) (λ p at c'. of_one p f at c') b)
        (Contains-append_cases old _ f c),
  )

  stays : (p : Parameter) (b : Bool) → gives q p ≡ b → Contains left p → Contains rest p ⊎ Contains (old ++ found) (missing_fault q p)
  stays p true is l = inl (in_flat_map (parameter_if_given q) left p p l (subst (λ b. Contains (cond b (p ∷ []) []) p) (sym is) (head_in p [])))
  stays p false is l =
      inr (Contains-append_right old found (missing_fault q p) (in_flat_map (fault_unless_given q) left p (missing_fault q p) l
      (subst (λ b. Contains (cond b [] (missing_fault q p ∷ [])) (missing_fault q p)) (sym is) (head_in (missing_fault q p) []))))

  then_said : IsSaid q rest (old ++ found)
  then_said = record {
    among = λ p c. from_flat_map (parameter_if_given q) left p (Contains (mandatory_for q) p)
        (λ z at c'. subst (λ y. Contains (mandatory_for q) y) (only z p _ (each_either _ (gives q z) (z ∷ []) [] (refl, tt) tt) c') (before.among z at)) c;
    said = λ p at. ⊎_elim (λ l. stays p (gives q p) refl l) (λ o. inr (Contains-append_left old found (missing_fault q p) o)) (before.said p at);
  }

-- All that the call doesn't give is reported, and what it gives is left to look up.
pub next_found : (q : Comparison) (left : List Parameter) (old new : List Fault) → IsSaid q left old → new ≡ old ++ flat_map (fault_unless_given q) left →
    SameSet new (old ++ missing_of q)
next_found q left old new before is =
    set_trans new (old ++ flat_map (fault_unless_given q) left) (old ++ missing_of q) (same_set _ _ is) (all_found q left old before)

pub next_said : (q : Comparison) (left after : List Parameter) (old new : List Fault) → IsSaid q left old → new ≡ old ++ flat_map (fault_unless_given q) left →
    after ≡ flat_map (parameter_if_given q) left → IsSaid q after new
next_said q left after old new before is are =
    subst (λ l. IsSaid q l new) (sym are) (subst (λ l. IsSaid q (flat_map (parameter_if_given q) left) l) (sym is) (then_said q left old before))

-- for the first call by a `uses`, all mandatory parameters are left to look up
pub first_said : (q : Comparison) (left : List Parameter) (out : List Fault) → left ≡ mandatory_for q → IsSaid q left out
first_said q left out are = subst (λ l. IsSaid q l out) (sym are) (record { among = λ p at. at; said = λ p at. inl at })

-- ---- calls by the same `uses`

same_fault : (q r : Comparison) → is_by_same_uses q r ≡ true → HaveOneSignature q r → (p : Parameter) → missing_fault q p ≡ missing_fault r p
same_fault q r h tells p =
    let t = and_parts (call_alike q r) (span_eq.ghosts.eq q.call.at r.call.at) h in
    let alike = likeness q r t.0 in
    let at = span_exact q.call.at r.call.at t.1 in
    let kind = alike.kind in
    let by = alike.by in
    let text = alike.text in
    let one = tells by text in
    λ i. record {
      span = at i;
      code = kind_of_code.Call (missing_code (kind i)) (by i);
      args = map utf8_lossy (p.name ∷ option_map_or (λ n. n) (one i).name (text i) ∷ []);
    }

-- what is reported for one of them is reported for the other
pub alike_said : (q r : Comparison) (left : List Parameter) (out : List Fault) → is_by_same_uses q r ≡ true → HaveOneSignature q r → IsSaid q left out → IsSaid r left out
alike_said q r left out h tells said =
    let alike = likeness q r (and_parts (call_alike q r) (span_eq.ghosts.eq q.call.at r.call.at) h).0 in
    let kind = alike.kind in
    let one = tells alike.by alike.text in
    let same : mandatory_for q ≡ mandatory_for r = λ i. mandatory_of (parameters_of (kind i) (one i)) in
    record {
      among = λ p c. subst (λ l. Contains l p) same (said.among p c);
      said = λ p c. ⊎_elim (λ l. inl l) (λ o. inr (subst (λ f. Contains out f) (same_fault q r h tells p) o)) (said.said p (subst (λ l. Contains l p) (sym same) c));
    }

-- sorting the calls changes no fault
pub order_found : (calls sorted : List code.Comparison) (old new : List Fault) → IsPermutation calls sorted →
    SameSet new (old ++ flat_map missing_of (map compared_of sorted)) → SameSet new (old ++ flat_map missing_of (map compared_of calls))
order_found calls sorted old new order is =
    let before = flat_map missing_of (map compared_of calls) in
    let rest = flat_map missing_of (map compared_of sorted) in
    set_trans new (old ++ rest) (old ++ before) is
    (set_after old rest before (set_permuted missing_of (map compared_of calls) (map compared_of sorted) (IsPermutation-map compared_of calls sorted order)))

-- ---- undefined and missing names of all calls

put_first : (f : Comparison → List Fault) (o : Option Comparison) (more : List Comparison) → flat_map f (cons_option o more) ≡ option_map_or f o [] ++ flat_map f more
put_first f None more = refl
put_first f (Some q) more = refl

of_kind : (k : ParameterKind) (c : Call) (o : Option Signature) → option_map_or name_faults_of (option_map (compared_with k c) o) [] ≡ option_map_or (names_against k c) o []
of_kind k c None = refl
of_kind k c (Some s) = refl

of_secrets : (a : Answered) → flat_map name_faults_of (cons_option (comparison_of Secret a) []) ≡ names_of_kind Secret a.call a.answer
of_secrets a =
    put_first name_faults_of (comparison_of Secret a) [] ∙ append-nil (option_map_or name_faults_of (comparison_of Secret a) [])
    ∙ of_kind Secret a.call (signature_for Secret a.call a.answer)

of_call : (a : Answered) → flat_map name_faults_of (comparisons a) ≡ faults_of_names a
of_call a =
    put_first name_faults_of (comparison_of Input a) (cons_option (comparison_of Secret a) [])
    ∙ λ i. of_kind Input a.call (signature_for Input a.call a.answer) i ++ of_secrets a i

of_calls : (as' : List Answered) → flat_map name_faults_of (flat_map comparisons as') ≡ flat_map faults_of_names as'
of_calls [] = refl
of_calls (a ∷ as') = flat_map-append name_faults_of (comparisons a) (flat_map comparisons as') ∙ λ i. of_call a i ++ of_calls as' i

pub all_names_found : (as' : List Answered) (qs : List Comparison) (old mid new : List Fault) → qs ≡ flat_map comparisons as' →
    SameSet mid (old ++ flat_map undefined_of qs) → SameSet new (mid ++ flat_map missing_of qs) → SameSet new (old ++ flat_map faults_of_names as')
all_names_found as' qs old mid new are undefined missing =
    subst (λ l. SameSet new (old ++ l)) (ap (flat_map name_faults_of) are ∙ of_calls as')
    (in_parts name_faults_of undefined_of missing_of (λ q. refl) qs old mid new undefined missing)
