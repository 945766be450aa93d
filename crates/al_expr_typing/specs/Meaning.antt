-- The type of an expression under a scope, and the faults in it, in the order in which it is read.
use Rattle.std.specs.Prelude.{codes, ℕ, ◌+◌, List, [], ◌∷◌, ◌++◌, Bool, true, false, ◌&&◌, ◌||◌}
use Rattle.std.specs.Prelude.{not, if◌then◌else◌, Option, Some}
use Rattle.std.specs.Prelude.{None, drop, length}
use Rattle.std.specs.Fmt.{decimal}
use Rattle.std.specs.Option.{option_map_or}
use Rattle.al_base.specs.declared.codes.ExpressionCode.TheVariants as code
use Rattle.al_base.specs.declared.faults.Fault.{Fault}
use Rattle.al_base.specs.declared.faults.Span.{Span}
use Rattle.al_expr_grammar.specs.declared.token.Operator.{Operator}
use Rattle.al_expr_grammar.specs.declared.token.Operator.TheVariants as operator
use Rattle.al_expr_names.specs.declared.names.Context.{Context}
use Rattle.al_expr_names.specs.declared.names.Function.{Function}
use Rattle.al_expr_names.specs.declared.names.Function.TheVariants as function
use Rattle.al_expr_names.specs.declared.signatures.Parameters.{Parameters}
use Rattle.al_expr_grammar.specs.Refusal.{expression_fault}
use Rattle.al_expr_names.specs.Names.{context_of, function_of}
use Rattle.al_expr_typing.specs.Placeholders.{used_arguments}
use Rattle.al_types.specs.Types.{Type', Any, Number, Bool', String, ArrayOf, ObjectOf, fuse_type}
use Rattle.al_types.specs.Types.{option_of, or_any, or_else}
use Rattle.al_expr_typing.specs.Comparison.{comparable_types}
use Rattle.al_expr_names.specs.Signatures.{signature, takes_count, parameter_at, accepts}
use Rattle.al_expr_names.specs.Signatures.{returned_type}
use Rattle.al_expr_names.specs.Scopes.{Scope}
use Rattle.al_expr_grammar.specs.Extents.{extent, across}
use Rattle.al_expr_typing.specs.Literals.{literal_text, type_of_keyword}
use Rattle.al_expr_typing.specs.Untrusted.{untrusted_chain}
use Rattle.al_expr_grammar.specs.Tree as tree
use Rattle.al_expr_grammar.specs.Tree.{Tree, sign, Constant, Named, Call, Group, Negated, Path}
use Rattle.al_expr_grammar.specs.Tree.{Chain, StepTree, PathSteps, NoStep}
use Rattle.al_expr_grammar.specs.Tree.{PropertyThen, AllThen, IndexThen, Operands, NoOperand}
use Rattle.al_expr_grammar.specs.Tree.{OperandThen, Arguments, NoArgument, ArgumentThen}

-- a type, and the faults that were found
pub data Typed : Type 0 where
  typed : Type' → List Fault → Typed

abbrev pub type_found : Typed → Type'
type_found (typed t fs) = t

abbrev pub faults_found : Typed → List Fault
faults_found (typed t fs) = fs

-- the same with these faults before the others
abbrev pub faults_then : List Fault → Typed → Typed
faults_then fs (typed t gs) = typed t (fs ++ gs)

abbrev pub and_then : Typed → (Type' → Typed) → Typed
and_then (typed t fs) go = faults_then fs (go t)

abbrev pub give : Bool → Fault → List Fault
give b f = if b then f ∷ [] else []

-- A name is a context: X7 if it isn't defined, X8 if it isn't available here.
abbrev pub name_type : Scope → List ℕ → Span → Option Context → Typed
name_type sc b s None = typed Any (expression_fault code.UndefinedContext s (b ∷ []) ∷ [])
name_type sc b s (Some c) =
    if sc.available.contexts c then typed (sc.types c) [] else
    typed Any (expression_fault code.UnavailableContext s (b ∷ []) ∷ [])

abbrev pub or_fault : Fault → Option Type' → Typed
or_fault f found = option_map_or (λ t. typed t []) found (typed Any (f ∷ []))

-- X14
abbrev pub not_indexable : Span → Typed
not_indexable whole = typed Any (expression_fault code.NotIndexable whole [] ∷ [])

-- A property: the field, otherwise the type of other fields, otherwise X13. For an array, an array
-- of the elements' property. A scalar has none: X14.
abbrev pub property_of : List ℕ → Span → Span → Type' → Typed
property_of n at whole Any = typed Any []
property_of n at whole (ObjectOf fields rest all) =
    or_fault (expression_fault code.UndefinedProperty at (n ∷ []))
    (option_of (or_else (fields n) rest))
property_of n at whole (ArrayOf t) = and_then (property_of n at whole t) (λ u. typed (ArrayOf u) [])
property_of n at whole _ = not_indexable whole

-- `.*` and `[*]`: for an object, an array of what all its fields and the type of others have in
-- common, or of any if there is neither
abbrev pub filter_of : Span → Type' → Typed
filter_of whole Any = typed Any []
filter_of whole (ArrayOf t) = typed (ArrayOf t) []
filter_of whole (ObjectOf fields rest all) = typed (ArrayOf (or_any (option_of all))) []
filter_of whole _ = not_indexable whole

-- the result of an index of this type: for an array an element
abbrev pub index_of : Span → Type' → Type' → Typed
index_of whole Any i = typed Any []
index_of whole (ObjectOf fields rest all) i = typed Any []
index_of whole (ArrayOf t) Any = typed t []
index_of whole (ArrayOf t) Number = typed t []
index_of whole _ i = not_indexable whole

-- `['p']` is a property, any other index an element.
abbrev pub index_from : Option (List ℕ × Span) → Span → Type' → Typed → Typed
index_from text whole t i =
    option_map_or (λ p. property_of p.0 p.1 whole t) text (and_then i (λ u. index_of whole t u))

-- steps as the parts of a chain: `['x']` as `x`, every other index as `*`
abbrev pub parts_of : PathSteps → List (List ℕ)
parts_of NoStep = []
parts_of (PropertyThen d b s ss) = b ∷ parts_of ss
parts_of (AllThen a b ss) = codes "*" ∷ parts_of ss
parts_of (IndexThen a t b ss) =
    option_map_or (λ text. text.0) (literal_text t) (codes "*") ∷ parts_of ss

-- X19: a whole path that is an untrusted chain, where its text could get into a script. It begins
-- with a name: a bracket ends a chain.
abbrev pub untrusted_faults : Bool → Tree → PathSteps → List Fault
untrusted_faults true (Named b s) ss =
    option_map_or (λ c. expression_fault code.Untrusted (extent (Path (Named b s) ss)) (c ∷ [])
    ∷ []) (untrusted_chain (b ∷ parts_of ss)) []
untrusted_faults _ t ss = []

abbrev pub is_logic : Operator → Bool
is_logic operator.Or = true
is_logic operator.And = true
is_logic _ = false

abbrev pub begins_logic : Operands → Bool
begins_logic NoOperand = false
begins_logic (OperandThen (sign o s) t os) = is_logic o

-- One more operand: `&&` and `||` fuse, the others compare, with X15 if the two can't be compared.
abbrev pub operation : Operator → Span → Type' → Type' → Typed
operation o s t u =
    if is_logic o then typed (fuse_type t u) []
    else typed Bool' (give (not (comparable_types o t u))
    (expression_fault code.NotComparable s []))

-- functions that only test their arguments, so that none of their text gets into a script
abbrev pub is_test : Option Function → Bool
is_test (Some function.Contains) = true
is_test (Some function.StartsWith) = true
is_test (Some function.EndsWith) = true
is_test _ = false

-- an argument's type, place and faults before those of others
abbrev pub argument_then : Typed → Span → List (Type' × Span) × List Fault → List (Type' × Span)
    × List Fault
argument_then (typed t fs) s more = ((t, s) ∷ more.0, fs ++ more.1)

-- X12 at each argument of the wrong type; the first has index 0 and number 1
abbrev pub wrong_arguments : List ℕ → Parameters → ℕ → List (Type' × Span) → List Fault
wrong_arguments name ps n [] = []
wrong_arguments name ps n (a ∷ as') =
    give (not (accepts (parameter_at ps n) a.0))
    (expression_fault code.ArgumentType a.1 (decimal (n + 1) ∷ name ∷ []))
    ++ wrong_arguments name ps (n + 1) as'

-- X11 if the number of arguments is wrong, otherwise X12
abbrev pub argument_faults : List ℕ → Span → Parameters → List (Type' × Span) → List Fault
argument_faults name at ps as' =
    if takes_count ps (length as') then wrong_arguments name ps 0 as' else
    expression_fault code.ArgumentCount at (name ∷ []) ∷ []

-- X17 at each argument that no placeholder uses. The first after the format string has index 0 and
-- number 2.
abbrev pub unused_arguments : ℕ → List Bool → List (Type' × Span) → List Fault
unused_arguments n (u ∷ us) (a ∷ as') =
    give (not u) (expression_fault code.UnusedArgument a.1 (decimal (n + 2) ∷ []))
    ++ unused_arguments (n + 1) us as'
unused_arguments n _ _ = []

-- X16 if a placeholder is wrong, otherwise X17
abbrev pub placeholder_faults : List ℕ × Span → List (Type' × Span) → List Fault
placeholder_faults text as' =
    option_map_or (λ us. unused_arguments 0 us as') (used_arguments (length as') text.0)
    (expression_fault code.WrongPlaceholder text.1 [] ∷ [])

-- `format`, if its first argument is a string literal
abbrev pub format_faults : Function → Arguments → List (Type' × Span) → List Fault
format_faults function.Format (ArgumentThen t ts) as' =
    option_map_or (λ text. placeholder_faults text (drop 1 as')) (literal_text t) []
format_faults _ ts as' = []

-- A call: X9 if the function isn't defined, X10 if it isn't available here.
abbrev pub call_from : Scope → List ℕ → Span → Option Function → Arguments
    → List (Type' × Span) → Typed
call_from sc b s None ts as' = typed Any (expression_fault code.UndefinedFunction s (b ∷ []) ∷ [])
call_from sc b s (Some f) ts as' =
    typed (returned_type (signature f).returned)
    (give (not (sc.available.functions f)) (expression_fault code.UnavailableFunction s (b ∷ []))
    ++ argument_faults b s (signature f).parameters as' ++ format_faults f ts as')

abbrev pub call : Scope → List ℕ → Span → Option Function → Arguments → List (Type' × Span)
    × List Fault → Typed
call sc b s f ts given = faults_then given.1 (call_from sc b s f ts given.0)

-- The type of an expression, with its faults. The flag says that X19 isn't reported, as in an
-- argument of a function that only tests it, or in an operand of a comparison or of `!`.
abbrev mutual
  pub meaning : Scope → Bool → Tree → Typed
  meaning sc safe (Constant w s) = typed (type_of_keyword w) []
  meaning sc safe (tree.Number b s) = typed Number []
  meaning sc safe (tree.Text b s) = typed String []
  meaning sc safe (Named b s) = name_type sc b s (context_of b)
  meaning sc safe (Call b s ts e) =
      call sc b s (function_of b) ts (meanings sc (safe || is_test (function_of b)) ts)
  meaning sc safe (Group t s e) = meaning sc safe t
  meaning sc safe (Negated s t) = and_then (meaning sc true t) (λ u. typed Bool' [])
  meaning sc safe (Path t ss) =
      and_then (and_then (meaning sc safe t) (λ u. walk sc safe ss u))
      (λ u. typed u (untrusted_faults (sc.in_run && not safe) t ss))
  meaning sc safe (Chain t os) =
      let inside =
      safe || not (begins_logic os) in
      and_then (meaning sc inside t) (λ u. operations sc inside os u)

  -- the steps of a path from a type on
  pub walk : Scope → Bool → PathSteps → Type' → Typed
  walk sc safe NoStep u = typed u []
  walk sc safe (PropertyThen d b s ss) u =
      and_then (property_of b s (across d s) u) (λ v. walk sc safe ss v)
  walk sc safe (AllThen a b ss) u = and_then (filter_of (across a b) u) (λ v. walk sc safe ss v)
  walk sc safe (IndexThen a t b ss) u =
      and_then (index_from (literal_text t) (across a b) u (meaning sc safe t))
      (λ v. walk sc safe ss v)

  -- the operators of one level from a type on
  pub operations : Scope → Bool → Operands → Type' → Typed
  operations sc safe NoOperand u = typed u []
  operations sc safe (OperandThen (sign o s) t os) u =
      and_then (meaning sc safe t) (λ v.
      and_then (operation o s u v) (λ w. operations sc safe os w))

  -- the types of arguments with their places, and the faults in them
  pub meanings : Scope → Bool → Arguments → List (Type' × Span) × List Fault
  meanings sc safe NoArgument = ([], [])
  meanings sc safe (ArgumentThen t ts) =
      argument_then (meaning sc safe t) (extent t) (meanings sc safe ts)

-- one step of a path
abbrev pub step_from : Scope → Bool → StepTree → Type' → Typed
step_from sc safe (tree.Property d b s) u = property_of b s (across d s) u
step_from sc safe (tree.All a b) u = filter_of (across a b) u
step_from sc safe (tree.Index a t b) u =
    index_from (literal_text t) (across a b) u (meaning sc safe t)

-- the same with these arguments and faults before the others
abbrev pub all_after : List (Type' × Span) → List Fault → List (Type' × Span) × List Fault
    → List (Type' × Span) × List Fault
all_after before' old more = (before' ++ more.0, old ++ more.1)

abbrev pub meaning_of : Scope → Tree → Typed
meaning_of sc t = meaning sc false t
