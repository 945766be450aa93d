-- The views of a scope and of arguments are the same in a longer table.
use Rattle.std.proofs.Common.{◌≡◌, List, map, true}
use Rattle.al_base.specs.Growth.{BeginsWith}
use Rattle.al_expr_names.specs.Scopes.{available_of}
use Rattle.al_expr_types.specs.Tables.{is_known, objects_of}
use Rattle.al_expr_types.specs.declared.types.Types.{Types}
use Rattle.al_expr_types.proofs.Below.{all_weaker, same_mapped}
use Rattle.al_expr_types.proofs.Stays.{known_stays, type_stays}
use Rattle.al_expr_typing.specs.Arguments.{are_known, argument_at}
use Rattle.al_expr_typing.specs.declared.calls.Argument.{Argument}
use Rattle.al_expr_typing.specs.Scopes.{IsShown, context_number, scope_view}
use Rattle.al_expr_typing.specs.declared.scope.Scope as code

pub scope_stays : (new old : Types) (s : code.Scope) → BeginsWith (objects_of new) (objects_of old) → IsShown old s → scope_view new s ≡ scope_view old s
scope_stays new old s b h =
    λ d. record {
      types = λ c. type_stays new old (context_number s.types c) b (h.known c) d;
      available = available_of s.available;
      in_run = s.in_run;
    }

pub shown_stays : (new old : Types) (s : code.Scope) → IsShown old s → BeginsWith (objects_of new) (objects_of old) → IsShown new s
shown_stays new old s h b = record { known = λ c. known_stays new old (context_number s.types c) b (h.known c) }

pub ruleset shown = (shown_stays)

pub arguments_stay : (new old : Types) (as' : List Argument) → BeginsWith (objects_of new) (objects_of old) → are_known old as' ≡ true → map (argument_at new) as' ≡ map (argument_at old) as'
arguments_stay new old as' b h =
    same_mapped (λ a. is_known old a.ty) (argument_at new) (argument_at old) (λ a k d. (type_stays new old a.ty b k d, a.span)) as' h

pub arguments_known : (new old : Types) (as' : List Argument) → BeginsWith (objects_of new) (objects_of old) → are_known old as' ≡ true → are_known new as' ≡ true
arguments_known new old as' b h = all_weaker (λ a. is_known old a.ty) (λ a. is_known new a.ty) (λ a k. known_stays new old a.ty b k) as' h
