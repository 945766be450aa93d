-- Typing a chain of operands: one more operand, and the type so far in a longer table.
use Rattle.std.proofs.Common.{◌≡◌, List, [], ◌++◌, true, false, refl, ap, ◌∙◌}
use Rattle.std.specs.Prelude.{not}
use Rattle.al_base.specs.Growth.{BeginsWith}
use Rattle.al_base.specs.declared.codes.ExpressionCode.TheVariants as code
use Rattle.al_base.specs.declared.faults.Fault.{Fault}
use Rattle.al_base.specs.declared.faults.Span.{Span}
use Rattle.al_expr_grammar.specs.Refusal.{expression_fault}
use Rattle.al_expr_grammar.specs.declared.token.Operator.{Operator}
use Rattle.al_expr_typing.specs.Comparison.{comparable_types}
use Rattle.al_expr_typing.specs.Meaning.{typed, faults_then, give, is_logic, operation}
use Rattle.al_expr_typing.proofs.TypedSteps.{unchanged}
use Rattle.al_types.specs.Presence.{is_present}
use Rattle.al_types.specs.Types.{Type', Bool', Optional, Absent, Present, fuse_optional, fuse_type, option_of, or_any}
use Rattle.al_expr_types.specs.Tables.{objects_of}
use Rattle.al_expr_types.specs.declared.joining.Join.{Join}
use Rattle.al_expr_types.specs.declared.types.Types.{Types}
use Rattle.al_expr_types.proofs.Keeping.{joined_longer, joined_wider, longer}
use Rattle.al_expr_typing.specs.Chains.{has_operand, is_join_known, type_so_far}

-- ---- one more operand

pub more_fused : (o new : Optional) (t : Type') → is_present o ≡ true → new ≡ fuse_optional o (Present t) →
    (or_any (option_of new) ≡ fuse_type (or_any (option_of o)) t) × (is_present new ≡ true)
more_fused Absent new t h e = absurd cc
more_fused (Present u) new t h e = (ap (λ x. or_any (option_of x)) e, ap is_present e)

pub chosen : (o : Operator) (s : Span) (t u v : Type') (old : List Fault) → is_logic o ≡ true → v ≡ fuse_type t u → typed v old ≡ faults_then old (operation o s t u)
chosen o s t u v old h e = rw (e, h) (unchanged (fuse_type t u) old)

pub compared : (o : Operator) (s : Span) (t u : Type') (old new : List Fault) → is_logic o ≡ false →
    new ≡ old ++ give (not (comparable_types o t u)) (expression_fault code.NotComparable s []) → typed Bool' new ≡ faults_then old (operation o s t u)
compared o s t u old new h e = rw (e, h) refl

-- ---- in a longer table

pub so_far_stays : (new old : Types) (j : Join) → BeginsWith (objects_of new) (objects_of old) → is_join_known old j ≡ true → type_so_far new j ≡ type_so_far old j
so_far_stays new old j b h = ap (λ o. or_any (option_of o)) (joined_longer new.objects.items old.objects.items j b h)

pub operand_stays : (new old : Types) (j : Join) → BeginsWith (objects_of new) (objects_of old) → is_join_known old j ≡ true → has_operand old j ≡ true → has_operand new j ≡ true
operand_stays new old j b h k = ap is_present (joined_longer new.objects.items old.objects.items j b h) ∙ k

pub join_stays : (new old : Types) (j : Join) → BeginsWith (objects_of new) (objects_of old) → is_join_known old j ≡ true → is_join_known new j ≡ true
join_stays new old j b h = joined_wider _ _ (longer new.objects.items old.objects.items b) j h
