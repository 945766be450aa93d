-- The order of faults is the derived one and is total; only equal faults compare as equal.
use Rattle.std.proofs.Common.{◌≡◌, ℕ, List, [], ◌∷◌, get_or, map, refl, sym, ap, ◌∙◌}
use Rattle.std.specs.Cmp.{IsTotalOrder}
use Rattle.std.specs.Cmp.Derive.{then_next}
use Rattle.std.specs.List.{AllByRecursion, Contains, flat_map}
use Rattle.std.specs.List.Sorted.{IsPermutation, IsStrictlySortedBy}
use Rattle.std.specs.FinMap.{IsAntisymmetric, nat_cmp-IsAntisymmetric, slice_cmp-IsAntisymmetric}
use Rattle.std.specs.Ordering.{nat_cmp, ordering_then, eq_by_cmp, is_eq}
use Rattle.std.specs.declared.cmp.Ordering.{Ordering}
use Rattle.std.specs.declared.cmp.Ordering.TheVariants.{Less, Equal, Greater}
use Rattle.std.proofs.lemmas.List.Sorted.{Contains-permutation, IsPermutation-sym}
use Rattle.std.proofs.lemmas.Cmp.{nat_cmp_total, on_total, then_total}
use Rattle.al_base.specs.Orders.{args_cmp}
use Rattle.al_base.specs.Proofs.Orders.{args_total}
use Rattle.al_base.specs.Codes.{call_codes, expression_codes, key_codes, rule_codes, yaml_codes}
use Rattle.al_base.specs.FaultLists.{fault_cmp, fault_list, kind_place, place_in_kind}
use Rattle.al_base.specs.declared.codes.Code.{Code}
use Rattle.al_base.specs.declared.codes.Code.TheVariants as C
use Rattle.al_base.specs.declared.codes.YamlCode.TheVariants.{NotUtf8}
use Rattle.al_base.specs.declared.codes.KeyCode.TheVariants.{Unexpected, EmptyFile}
use Rattle.al_base.specs.declared.codes.RuleCode.TheVariants.{UnknownEvent}
use Rattle.al_base.specs.declared.codes.CallCode.TheVariants.{NoWorkflow}
use Rattle.al_base.specs.declared.codes.Caller.TheVariants as caller
use Rattle.al_base.specs.declared.codes.ExpressionCode.TheVariants.{BadCharacter}
use Rattle.al_base.specs.declared.faults.Fault.{Fault}
use Rattle.al_base.specs.contracts.codes.CodeOrd.TheImpl as code
use Rattle.al_base.specs.contracts.faults.FaultOrd.TheImpl as derived
use Rattle.al_base.specs.contracts.faults.FaultOrd.TheImpl.Laws.{matches_eq-law}
use Rattle.al_base.specs.contracts.faults.FaultPartialEq.TheImpl as derived_eq
use Rattle.al_base.proofs.InOrder.{IsStrictlySortedBy-in_order, Contains-in_order, Contains-from_in_order, AllByRecursion-in_order, in_order-same, in_order-sorted}

-- ---- the derived order, case by case on the two codes

code_is : (a b : Code) → code.ghosts.cmp a b ≡ ordering_then (nat_cmp (kind_place a) (kind_place b)) (nat_cmp (place_in_kind a) (place_in_kind b))
code_is (C.Yaml NotUtf8) (C.Yaml NotUtf8) = refl
code_is (C.Yaml _) (C.Yaml NotUtf8) = refl
code_is (C.Yaml _) (C.Yaml _) = refl
code_is (C.Key Unexpected) (C.Key Unexpected) = refl
code_is (C.Key _) (C.Key Unexpected) = refl
code_is (C.Key _) (C.Key _) = refl
code_is (C.Rule UnknownEvent) (C.Rule UnknownEvent) = refl
code_is (C.Rule _) (C.Rule UnknownEvent) = refl
code_is (C.Rule _) (C.Rule _) = refl
code_is (C.Expression BadCharacter) (C.Expression BadCharacter) = refl
code_is (C.Expression _) (C.Expression BadCharacter) = refl
code_is (C.Expression _) (C.Expression _) = refl
code_is (C.Call NoWorkflow caller.Job) (C.Call NoWorkflow caller.Job) = refl
code_is (C.Call _ caller.Job) (C.Call NoWorkflow caller.Job) = refl
code_is (C.Call _ caller.Job) (C.Call _ caller.Job) = refl
code_is (C.Call NoWorkflow caller.Job) (C.Call NoWorkflow caller.Step) = refl
code_is (C.Call _ caller.Job) (C.Call NoWorkflow caller.Step) = refl
code_is (C.Call _ caller.Job) (C.Call _ caller.Step) = refl
code_is (C.Call NoWorkflow caller.Step) (C.Call NoWorkflow caller.Job) = refl
code_is (C.Call _ caller.Step) (C.Call NoWorkflow caller.Job) = refl
code_is (C.Call _ caller.Step) (C.Call _ caller.Job) = refl
code_is (C.Call NoWorkflow caller.Step) (C.Call NoWorkflow caller.Step) = refl
code_is (C.Call _ caller.Step) (C.Call NoWorkflow caller.Step) = refl
code_is (C.Call _ caller.Step) (C.Call _ caller.Step) = refl
code_is _ _ = refl

then_assoc : (p c l : Ordering) → ordering_then (ordering_then p c) l ≡ ordering_then p (ordering_then c l)
then_assoc p c l = sym (then_next p c l refl refl)

joined : (s e c k p a : Ordering) → c ≡ ordering_then k p → ordering_then (ordering_then s e) (ordering_then c a) ≡ ordering_then s (ordering_then e (ordering_then k (ordering_then p a)))
joined s e c k p a is =
    then_assoc s e (ordering_then c a) ∙ ap (λ r. ordering_then s (ordering_then e (ordering_then r a))) is
    ∙ ap (λ r. ordering_then s (ordering_then e r)) (then_assoc k p a)

pub derived_is : (x y : Fault) → derived.ghosts.cmp x y ≡ fault_cmp x y
derived_is x y =
    joined (nat_cmp x.span.start y.span.start) (nat_cmp x.span.end y.span.end) (code.ghosts.cmp x.code y.code)
    (nat_cmp (kind_place x.code) (kind_place y.code)) (nat_cmp (place_in_kind x.code) (place_in_kind y.code)) (args_cmp x.args y.args) (code_is x.code y.code)

-- `==` holds exactly where the order gives `Equal`
pub derived_ties : (x y : Fault) → derived_eq.ghosts.eq x y ≡ eq_by_cmp fault_cmp x y
derived_ties x y = matches_eq-law x y ∙ ap is_eq (derived_is x y)

-- ---- the laws

pub fault_cmp_total : IsTotalOrder fault_cmp
fault_cmp_total =
    then_total (on_total (λ (fault : Fault). fault.span.start) nat_cmp_total)
    (then_total (on_total (λ (fault : Fault). fault.span.end) nat_cmp_total)
    (then_total (on_total (λ (fault : Fault). kind_place fault.code) nat_cmp_total)
    (then_total (on_total (λ (fault : Fault). place_in_kind fault.code) nat_cmp_total)
    (on_total (λ (fault : Fault). fault.args) args_total))))

-- the code at each position of a group
code_at : ℕ → ℕ → Code
code_at kind place = get_or (get_or (map C.Yaml yaml_codes ∷ map C.Key key_codes ∷ map C.Rule rule_codes ∷ map C.Expression expression_codes
    ∷ flat_map (λ a. C.Call a caller.Job ∷ C.Call a caller.Step ∷ []) call_codes ∷ []) kind []) place (C.Key EmptyFile)

code_back : (a : Code) → code_at (kind_place a) (place_in_kind a) ≡ a
unfolding code_at
code_back (C.Yaml NotUtf8) = refl
code_back (C.Yaml _) = refl
code_back (C.Key Unexpected) = refl
code_back (C.Key _) = refl
code_back (C.Rule UnknownEvent) = refl
code_back (C.Rule _) = refl
code_back (C.Expression BadCharacter) = refl
code_back (C.Expression _) = refl
code_back (C.Call NoWorkflow caller.Job) = refl
code_back (C.Call _ caller.Job) = refl
code_back (C.Call NoWorkflow caller.Step) = refl
code_back (C.Call _ caller.Step) = refl

one_code : (a b : Code) → kind_place a ≡ kind_place b → place_in_kind a ≡ place_in_kind b → a ≡ b
one_code a b k p = sym (code_back a) ∙ (λ i. code_at (k i) (p i)) ∙ code_back b

both_equal : (r s : Ordering) → ordering_then r s ≡ Equal → (r ≡ Equal) × (s ≡ Equal)
both_equal Less s e = absurd cc
both_equal Equal s e = (refl, e)
both_equal Greater s e = absurd cc

pub fault_cmp_same : IsAntisymmetric fault_cmp
fault_cmp_same x y e =
    let one = both_equal _ _ e in
    let two = both_equal _ _ one.1 in
    let three = both_equal _ _ two.1 in
    let four = both_equal _ _ three.1 in
    let start : x.span.start ≡ y.span.start = nat_cmp-IsAntisymmetric _ _ one.0 in
    let end : x.span.end ≡ y.span.end = nat_cmp-IsAntisymmetric _ _ two.0 in
    let code : x.code ≡ y.code = one_code x.code y.code (nat_cmp-IsAntisymmetric _ _ three.0) (nat_cmp-IsAntisymmetric _ _ four.0) in
    let args : x.args ≡ y.args = slice_cmp-IsAntisymmetric (slice_cmp-IsAntisymmetric nat_cmp-IsAntisymmetric) x.args y.args four.1 in
    λ i. record { span = record { start = start i; end = end i }; code = code i; args = args i }

-- ---- `fault_list` is strictly sorted and has the same faults

pub IsStrictlySortedBy-fault_list : (faults : List Fault) → IsStrictlySortedBy fault_cmp (fault_list faults)
IsStrictlySortedBy-fault_list faults = IsStrictlySortedBy-in_order fault_cmp_total fault_cmp_same faults

pub Contains-fault_list : (faults : List Fault) (fault : Fault) → Contains faults fault → Contains (fault_list faults) fault
Contains-fault_list faults fault h = Contains-in_order fault_cmp_total fault_cmp_same faults fault h

pub Contains-from_fault_list : (faults : List Fault) (fault : Fault) → Contains (fault_list faults) fault → Contains faults fault
Contains-from_fault_list faults fault h = Contains-from_in_order fault_cmp_total fault_cmp_same faults fault h

-- a property of all faults, for example that they are within the file
pub AllByRecursion-fault_list : (P : Fault → Type 0) (faults : List Fault) → AllByRecursion P faults → AllByRecursion P (fault_list faults)
AllByRecursion-fault_list P faults all = AllByRecursion-in_order fault_cmp_total fault_cmp_same P faults all

-- Lists with the same faults give the same `fault_list`.
pub fault_list-same : (a b : List Fault) → ((fault : Fault) → Contains a fault → Contains b fault) → ((fault : Fault) → Contains b fault → Contains a fault) → fault_list a ≡ fault_list b
fault_list-same a b f g = in_order-same fault_cmp_total fault_cmp_same a b f g

-- `fault_list` doesn't depend on the order of its argument.
pub fault_list-permutation : (a b : List Fault) → IsPermutation a b → fault_list a ≡ fault_list b
fault_list-permutation a b moved = fault_list-same a b (λ fault. Contains-permutation a b fault moved) (λ fault. Contains-permutation b a fault (IsPermutation-sym a b moved))

-- A strictly sorted list is its own `fault_list`.
pub fault_list-sorted : (faults : List Fault) → IsStrictlySortedBy fault_cmp faults → fault_list faults ≡ faults
fault_list-sorted faults s = in_order-sorted fault_cmp_total fault_cmp_same faults s
