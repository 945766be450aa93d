-- What a place makes available.
use Rattle.std.specs.Prelude.{List, [], ◌∷◌, Bool, ◌||◌, not}
use Rattle.std.specs.List.{list_any}
use Rattle.al_expr_names.specs.contracts.names.ContextPartialEq.TheImpl as contexts
use Rattle.al_expr_names.specs.contracts.names.FunctionPartialEq.TheImpl as functions
use Rattle.al_expr_names.specs.declared.names.Context.{Context}
use Rattle.al_expr_names.specs.declared.names.Function.{Function}
use Rattle.al_expr_names.specs.declared.names.Function.TheVariants.{Always, Cancelled, Failure}
use Rattle.al_expr_names.specs.declared.names.Function.TheVariants.{HashFiles, Success}
use Rattle.al_expr_names.specs.declared.scope.Available as code
use Rattle.al_types.specs.Types.{Type'}

-- which contexts are available, and which special functions
pub record Available : Type 0 where
  pub contexts : Context → Bool
  pub functions : Function → Bool

-- the types of the contexts, what is available, and whether the place is a step's `run`
pub record Scope : Type 0 where
  pub types : Context → Type'
  pub available : Available
  pub in_run : Bool

-- the status check functions
abbrev pub status : List Function
status = Always ∷ Cancelled ∷ Success ∷ Failure ∷ []

-- the functions that are available only at some places
abbrev pub special : List Function
special = HashFiles ∷ status

abbrev pub is_special : Function → Bool
is_special f = list_any (λ g. functions.ghosts.eq g f) special

-- A special function has to be listed.
abbrev pub can_call : List Function → Function → Bool
can_call fs f = not (is_special f) || list_any (λ g. functions.ghosts.eq g f) fs

-- these contexts, and these special functions
abbrev pub available : List Context → List Function → Available
available cs fs =
    record { contexts = λ c. list_any (λ d. contexts.ghosts.eq d c) cs; functions = can_call fs }

abbrev pub available_of : code.Available → Available
available_of a = available a.contexts.now a.special.now
