-- Typing paths, chains of operands and arguments, one item after another.
use Rattle.std.proofs.Common.{◌≡◌, ℕ, List, [], ◌∷◌, ◌++◌, Bool, true, map, Option, Some, None, refl, sym, ap, ◌∙◌, append_assoc}
use Rattle.std.specs.Option.{option_map_or}
use Rattle.al_base.specs.declared.faults.Fault.{Fault}
use Rattle.al_base.specs.declared.faults.Span.{Span}
use Rattle.al_base.specs.declared.codes.ExpressionCode.TheVariants as code
use Rattle.al_expr_names.specs.declared.names.Function.{Function}
use Rattle.al_expr_grammar.specs.Refusal.{expression_fault}
use Rattle.al_types.specs.Types.{Type'}
use Rattle.al_expr_grammar.specs.Tree.{Tree, Named, Path, PathSteps, Sign, sign, Arguments, StepTree, Property, All, Index, steps_of, operands_of, arguments_of}
use Rattle.al_expr_names.specs.Scopes.{Scope}
use Rattle.al_expr_grammar.specs.Extents.{extent}
use Rattle.al_expr_typing.specs.Untrusted.{chain_part, untrusted_chain}
use Rattle.al_expr_typing.specs.Meaning.{Typed, typed, faults_then, call, call_from, untrusted_faults}
use Rattle.al_expr_typing.specs.Meaning.{and_then, argument_then, all_after, parts_of, step_from, index_from}
use Rattle.al_expr_typing.specs.Meaning.{index_of, operation, meaning, walk, operations, meanings}
use Rattle.al_expr_typing.specs.Steps.{base_name}
use Rattle.al_expr_typing.proofs.TypedSteps.{follows, after-after}

pub parts_of-steps : (ss : List StepTree) → parts_of (steps_of ss) ≡ map chain_part ss
parts_of-steps [] = refl
parts_of-steps (Property d b s ∷ ss) = ap (λ ps. b ∷ ps) (parts_of-steps ss)
parts_of-steps (All a b ∷ ss) = ap (λ ps. chain_part (All a b) ∷ ps) (parts_of-steps ss)
parts_of-steps (Index a t b ∷ ss) = ap (λ ps. chain_part (Index a t b) ∷ ps) (parts_of-steps ss)

pub ruleset parts = (parts_of-steps)

walked-cons : (sc : Scope) (safe : Bool) (s : StepTree) (ss : List StepTree) (u : Type') → walk sc safe (steps_of (s ∷ ss)) u ≡ and_then (step_from sc safe s u) (λ v. walk sc safe (steps_of ss) v)
walked-cons sc safe (Property d b s) ss u = refl
walked-cons sc safe (All a b) ss u = refl
walked-cons sc safe (Index a t b) ss u = refl

-- one more step
pub walked_on : (sc : Scope) (safe : Bool) (s : StepTree) (ss : List StepTree) (u v : Type') (old mid : List Fault) → typed v mid
    ≡ faults_then old (step_from sc safe s u) → faults_then mid (walk sc safe (steps_of ss) v) ≡ faults_then old (walk sc safe (steps_of (s ∷ ss)) u)
walked_on sc safe s ss u v old mid e = follows old mid v (step_from sc safe s u) (λ w. walk sc safe (steps_of ss) w) e ∙ ap (faults_then old) (sym (walked-cons sc safe s ss u))

abbrev operation' : Sign → Type' → Type' → Typed
operation' (sign op at) t u = operation op at t u

-- one more operand
pub chained_on : (sc : Scope) (safe : Bool) (o : Sign × Tree) (os : List (Sign × Tree)) (t u v : Type') (old mid new : List Fault)
    → typed u mid ≡ faults_then old (meaning sc safe o.1) → typed v new ≡ faults_then mid (operation' o.0 t u)
    → faults_then new (operations sc safe (operands_of os) v) ≡ faults_then old (operations sc safe (operands_of (o ∷ os)) t)
chained_on sc safe (sign op at, x) os t u v old mid new e f =
    follows mid new v (operation op at t u) (λ w. operations sc safe (operands_of os) w) f
    ∙ follows old mid u (meaning sc safe x) (λ w. and_then (operation op at t w) (λ y. operations sc safe (operands_of os) y)) e

joined_typed : (given : List (Type' × Span)) (old fs : List Fault) (t : Type') (s : Span) (rest : List (Type' × Span) × List Fault)
    → all_after (given ++ (t, s) ∷ []) (old ++ fs) rest ≡ all_after given old (argument_then (typed t fs) s rest)
joined_typed given old fs t s rest = λ d. (append_assoc given ((t, s) ∷ []) rest.0 d, append_assoc old fs rest.1 d)

joined_on : (given : List (Type' × Span)) (old : List Fault) (x : Typed) (s : Span) (t : Type') (mid : List Fault) (rest : List (Type' × Span) × List Fault)
    → typed t mid ≡ faults_then old x → all_after (given ++ (t, s) ∷ []) mid rest ≡ all_after given old (argument_then x s rest)
joined_on given old (typed u fs) s t mid rest e =
    let p : t ≡ u = cc in
    let q : mid ≡ old ++ fs = cc in
    rw (p, q) (joined_typed given old fs u s rest)

-- one more argument
pub meanings_on : (sc : Scope) (safe : Bool) (x : Tree) (xs : List Tree) (t : Type') (given : List (Type' × Span)) (old mid : List Fault)
    → typed t mid ≡ faults_then old (meaning sc safe x) → all_after (given ++ (t, extent x) ∷ []) mid (meanings sc safe (arguments_of xs))
    ≡ all_after given old (meanings sc safe (arguments_of (x ∷ xs)))
meanings_on sc safe x xs t given old mid e = joined_on given old (meaning sc safe x) (extent x) t mid (meanings sc safe (arguments_of xs)) e

-- a call's arguments, then the call itself
pub called_on : (sc : Scope) (b : List ℕ) (s : Span) (f : Option Function) (ts : Arguments) (given : List (Type' × Span))
    (old mid : List Fault) (m : List (Type' × Span) × List Fault) → (given, mid) ≡ all_after [] old m
    → faults_then mid (call_from sc b s f ts given) ≡ faults_then old (call sc b s f ts m)
called_on sc b s f ts given old mid m e =
    let p : given ≡ m.0 = ap (λ x. x.0) e in
    let q : mid ≡ old ++ m.1 = ap (λ x. x.1) e in
    rw (p, q) (after-after old m.1 (call_from sc b s f ts m.0))

-- a path's base, then its steps, then the faults of the whole path
pub path_on : (old m1 m2 new gs : List Fault) (u v : Type') (x : Typed) (go : Type' → Typed) → typed u m1 ≡ faults_then old x → typed v m2
    ≡ faults_then m1 (go u) → new ≡ m2 ++ gs → typed v new ≡ faults_then old (and_then (and_then x go) (λ w. typed w gs))
path_on old m1 m2 new gs u v x go e f h =
    ap (typed v) h ∙ follows old m2 v (and_then x go) (λ w. typed w gs) (f ∙ follows old m1 u x go e)

-- the fault of a chain, if there is one
abbrev pub chain_faults : Span → Option (List ℕ) → List Fault
chain_faults whole o = option_map_or (λ c. expression_fault code.Untrusted whole (c ∷ []) ∷ []) o []

-- for a path that begins with a name
chain_of : (name : List ℕ) (t : Tree) (ss : PathSteps) → Some name ≡ base_name t → untrusted_faults true t ss
    ≡ chain_faults (extent (Path t ss)) (untrusted_chain (name ∷ parts_of ss))
chain_of name (Named b s) ss h = cc
chain_of name t ss h = absurd cc

pub untrusted_is : (name : List ℕ) (t : Tree) (ss : List StepTree) (chain : Option (List ℕ)) → Some name ≡ base_name t → chain
    ≡ untrusted_chain (name ∷ map chain_part ss) → untrusted_faults true t (steps_of ss) ≡ chain_faults (extent (Path t (steps_of ss))) chain
untrusted_is name t ss chain h k =
    chain_of name t (steps_of ss) h
    ∙ ap (λ ps. chain_faults (extent (Path t (steps_of ss))) (untrusted_chain (name ∷ ps))) (parts_of-steps ss)
    ∙ ap (chain_faults (extent (Path t (steps_of ss)))) (sym k)

-- an index that isn't a text literal
pub indexed_on : (o : Option (List ℕ × Span)) (whole : Span) (u by v : Type') (old mid new : List Fault) (x : Typed) → None ≡ o
    → typed by mid ≡ faults_then old x → typed v new ≡ faults_then mid (index_of whole u by) → typed v new ≡ faults_then old (index_from o whole u x)
indexed_on None whole u by v old mid new x h e f = f ∙ follows old mid by x (λ w. index_of whole u w) e
indexed_on (Some n) whole u by v old mid new x h e f = absurd cc
