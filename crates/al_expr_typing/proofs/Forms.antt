-- Properties and indices of types, by array depth and for scalars.
use Rattle.std.proofs.Common.{◌≡◌, ℕ, zero, suc, List, [], Bool, Option, Some, None, append-nil, refl, ap, sym, option_map, ◌∙◌}
use Rattle.std.specs.Prelude.{if◌then◌else◌, unwrap_or}
use Rattle.al_base.specs.declared.faults.Fault.{Fault}
use Rattle.al_base.specs.declared.faults.Span.{Span}
use Rattle.al_types.specs.Types.{Type', Any, ArrayOf, Number, Parts, or_any}
use Rattle.al_expr_types.specs.Types.{arrays_of, scalar_type, type_in}
use Rattle.al_expr_types.specs.declared.ty.Base.TheVariants as base
use Rattle.al_expr_types.specs.declared.ty.Scalar.{Scalar}
use Rattle.al_expr_types.specs.declared.ty.Scalar.TheVariants as scalar
use Rattle.al_expr_types.specs.declared.ty.Ty.{Ty}
use Rattle.al_expr_typing.specs.Meaning.{Typed, typed, faults_then, and_then, property_of, filter_of, index_of, not_indexable}
use Rattle.al_expr_typing.specs.Steps.{is_index}

abbrev pub in_arrays : ℕ → Typed → Typed
in_arrays n (typed t fs) = typed (arrays_of n t) fs

in_none : (x : Typed) → x ≡ in_arrays zero x
in_none (typed t fs) = refl

abbrev in_array : Typed → Typed
in_array x = and_then x (λ u. typed (ArrayOf u) [])

in_one_more : (k : ℕ) (x : Typed) → in_array (in_arrays k x) ≡ in_arrays (suc k) x
in_one_more k (typed t fs) = ap (typed (arrays_of (suc k) t)) (append-nil fs)

pub after_arrays : (k : ℕ) (old : List Fault) (x : Typed) → in_arrays k (faults_then old x) ≡ faults_then old (in_arrays k x)
after_arrays k old (typed t fs) = refl

pub property_arrays : (k : ℕ) (n : List ℕ) (at whole : Span) (t : Type') → property_of n at whole (arrays_of k t) ≡ in_arrays k (property_of n at whole t)
property_arrays zero n at whole t = in_none (property_of n at whole t)
property_arrays (suc k) n at whole t = ap in_array (property_arrays k n at whole t) ∙ in_one_more k (property_of n at whole t)

pub scalar_property : (n : List ℕ) (at whole : Span) (s : Scalar) → property_of n at whole (scalar_type s) ≡ filter_of whole (scalar_type s)
scalar_property n at whole scalar.Any = refl
scalar_property n at whole _ = refl

pub scalar_index : (whole : Span) (s : Scalar) (i : Type') → index_of whole (scalar_type s) i ≡ filter_of whole (scalar_type s)
scalar_index whole scalar.Any i = refl
scalar_index whole _ i = refl

pub element_in : (whole : Span) (k n : ℕ) (t i : Type') (b : Bool) → suc k ≡ n → is_index i ≡ b →
    index_of whole (arrays_of n t) i ≡ (if b then typed (arrays_of k t) [] else not_indexable whole)
element_in whole k n t i b e is =
    ap (λ m. index_of whole (arrays_of m t) i) (sym e) ∙ element_by i
    ∙ ap (λ b. if b then typed (arrays_of k t) [] else not_indexable whole) is
  where
    element_by : (i : Type') → index_of whole (ArrayOf (arrays_of k t)) i ≡ (if is_index i then typed (arrays_of k t) [] else not_indexable whole)
    element_by Any = refl
    element_by Number = refl
    element_by _ = refl

pub or_else_any : (ms : List Parts) (o : Option Ty) → type_in ms (unwrap_or o (record { arrays = 0; of = base.Scalar scalar.Any })) ≡ or_any (option_map (type_in ms) o)
or_else_any ms None = refl
or_else_any ms (Some t) = refl

pub ruleset scalar_steps = (scalar_property, scalar_index)
