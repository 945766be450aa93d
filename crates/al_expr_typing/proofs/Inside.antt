-- Each fault that typing an expression gives is within the content of its tree.
use Rattle.std.proofs.Common.{◌≤◌, ◌+◌, ℕ, List, [], ◌∷◌, ◌++◌, length, drop, arith, Bool, true, false, ◌||◌, ◌&&◌, not, Option, Some, None}
use Rattle.std.proofs.lemmas.Bool.{cond_both}
use Rattle.std.specs.List.{AllByRecursion}
use Rattle.std.specs.Option.{option_map_or}
use Rattle.std.specs.Fmt.{decimal}
use Rattle.al_base.specs.Spans.{LiesIn}
use Rattle.al_base.specs.declared.codes.ExpressionCode.TheVariants as code
use Rattle.al_base.specs.declared.faults.Fault.{Fault}
use Rattle.al_base.specs.declared.faults.Span.{Span}
use Rattle.al_expr_grammar.specs.Extents.{across, extent}
use Rattle.al_expr_grammar.specs.Inside.{AllLie}
use Rattle.al_expr_grammar.specs.Refusal.{expression_fault}
use Rattle.al_expr_grammar.specs.Tree as tree
use Rattle.al_expr_grammar.specs.Tree.{Tree, sign, Named, Call, Group, Negated, Path, Chain, PathSteps, NoStep, PropertyThen, AllThen}
use Rattle.al_expr_grammar.specs.Tree.{IndexThen, Operands, NoOperand, OperandThen, Arguments, NoArgument, ArgumentThen}
use Rattle.al_expr_grammar.specs.declared.token.Operator.{Operator}
use Rattle.al_expr_grammar.proofs.Inside.{TreeLies, StepsLie, OperandsLie, ArgumentsLie, start_of, whole_lies}
use Rattle.al_expr_names.specs.Names.{context_of, function_of}
use Rattle.al_expr_names.specs.Scopes.{Scope}
use Rattle.al_expr_names.specs.Signatures.{accepts, signature, takes_count, parameter_at}
use Rattle.al_types.specs.Types.{Type', Any, Number, Bool', ArrayOf, ObjectOf, option_of, or_else}
use Rattle.al_expr_names.specs.declared.names.Context.{Context}
use Rattle.al_expr_names.specs.declared.names.Function.{Function}
use Rattle.al_expr_names.specs.declared.names.Function.TheVariants.{Format}
use Rattle.al_expr_names.specs.declared.signatures.Parameters.{Parameters}
use Rattle.al_expr_typing.specs.Comparison.{comparable_types}
use Rattle.al_expr_typing.specs.Literals.{literal_text}
use Rattle.al_expr_typing.specs.Meaning.{Typed, typed, filter_of, and_then, argument_faults, argument_then}
use Rattle.al_expr_typing.specs.Meaning.{begins_logic, faults_then, call, call_from, operations, faults_found, format_faults}
use Rattle.al_expr_typing.specs.Meaning.{give, index_of, index_from, is_logic, is_test, meaning, meanings, name_type, operation, or_fault, parts_of}
use Rattle.al_expr_typing.specs.Meaning.{placeholder_faults, property_of, untrusted_faults}
use Rattle.al_expr_typing.specs.Meaning.{unused_arguments, walk, wrong_arguments}
use Rattle.al_expr_typing.specs.Placeholders.{used_arguments}
use Rattle.al_expr_typing.specs.Untrusted.{untrusted_chain}

module _ (size : ℕ) where
  abbrev TypedLies : Typed → Type 0
  TypedLies x = AllLie size (faults_found x)

  abbrev ArgsLie : List (Type' × Span) → Type 0
  ArgsLie as' = AllByRecursion (λ (a : Type' × Span). LiesIn size a.1) as'

  abbrev AllTypedLies : List (Type' × Span) × List Fault → Type 0
  AllTypedLies all = ArgsLie all.0 × AllLie size all.1

  abbrev LiteralLies : Option (List ℕ × Span) → Type 0
  LiteralLies None = Unit {0}
  LiteralLies (Some x) = LiesIn size x.1

  pub both_lie : (xs ys : List Fault) → AllLie size xs → AllLie size ys → AllLie size (xs ++ ys)
  both_lie [] ys a b = b
  both_lie (x ∷ xs) ys a b = (a.0, both_lie xs ys a.1 b)

  after_lies : (fs : List Fault) (x : Typed) → AllLie size fs → TypedLies x → TypedLies (faults_then fs x)
  after_lies fs (typed t gs) a b = both_lie fs gs a b

  then_lies : (x : Typed) (go : Type' → Typed) → TypedLies x → ((u : Type') → TypedLies (go u)) → TypedLies (and_then x go)
  then_lies (typed t fs) go a b = after_lies fs (go t) a (b t)

  give_lies : (t : Bool) (f : Fault) → LiesIn size f.span → AllLie size (give t f)
  give_lies true f i = (i, tt)
  give_lies false f i = tt

  named_lies : (sc : Scope) (b : List ℕ) (s : Span) (o : Option Context) → LiesIn size s → TypedLies (name_type sc b s o)
  named_lies sc b s None i = (i, tt)
  named_lies sc b s (Some c) i = cond_both (sc.available.contexts c) (typed (sc.types c) []) (typed Any (expression_fault code.UnavailableContext s (b ∷ []) ∷ [])) TypedLies (λ e. tt) (λ e. (i, tt))

  or_lies : (f : Fault) (o : Option Type') → LiesIn size f.span → TypedLies (or_fault f o)
  or_lies f None i = (i, tt)
  or_lies f (Some t) i = tt

  property_lies : (n : List ℕ) (at whole : Span) (u : Type') → LiesIn size at → LiesIn size whole → TypedLies (property_of n at whole u)
  property_lies n at whole Any i j = tt
  property_lies n at whole (ObjectOf fields rest all) i j = or_lies (expression_fault code.UndefinedProperty at (n ∷ [])) (option_of (or_else (fields n) rest)) i
  property_lies n at whole (ArrayOf t) i j = then_lies (property_of n at whole t) (λ u. typed (ArrayOf u) []) (property_lies n at whole t i j) (λ u. tt)
  property_lies n at whole _ i j = (j, tt)

  all_lies : (whole : Span) (u : Type') → LiesIn size whole → TypedLies (filter_of whole u)
  all_lies whole Any j = tt
  all_lies whole (ArrayOf t) j = tt
  all_lies whole (ObjectOf fields rest all) j = tt
  all_lies whole _ j = (j, tt)

  index_lies : (whole : Span) (u i : Type') → LiesIn size whole → TypedLies (index_of whole u i)
  index_lies whole Any i j = tt
  index_lies whole (ObjectOf fields rest all) i j = tt
  index_lies whole (ArrayOf t) Any j = tt
  index_lies whole (ArrayOf t) Number j = tt
  index_lies whole _ i j = (j, tt)

  indexed_lies : (o : Option (List ℕ × Span)) (whole : Span) (u : Type') (i : Typed) → LiteralLies o → LiesIn size whole → TypedLies i → TypedLies (index_from o whole u i)
  indexed_lies (Some x) whole u i l j h = property_lies x.0 x.1 whole u l j
  indexed_lies None whole u i l j h = then_lies i (λ v. index_of whole u v) h (λ v. index_lies whole u v j)

  literal_lies : (t : Tree) (low : ℕ) → TreeLies size low t → LiteralLies (literal_text t)
  literal_lies (tree.Text b s) low l = l.1
  literal_lies (Group t s e) low l = literal_lies t s.start l.2
  literal_lies _ low l = tt

  across_lies : (a b : Span) → a.start ≤ b.start → LiesIn size b → LiesIn size (across a b)
  across_lies a b h i = let o : b.start ≤ b.end = i.ordered in record { ordered = omega (arith, h, o); inside = i.inside }

  chain_lies : (whole : Span) (o : Option (List ℕ)) → LiesIn size whole → AllLie size (option_map_or (λ c. expression_fault code.Untrusted whole (c ∷ []) ∷ []) o [])
  chain_lies whole None i = tt
  chain_lies whole (Some c) i = (i, tt)

  untrusted_lies : (exposed : Bool) (t : Tree) (ss : PathSteps) → LiesIn size (extent (Path t ss)) → AllLie size (untrusted_faults exposed t ss)
  untrusted_lies true (Named b s) ss i = chain_lies (extent (Path (Named b s) ss)) (untrusted_chain (b ∷ parts_of ss)) i
  untrusted_lies _ t ss i = tt

  operated_lies : (o : Operator) (s : Span) (t u : Type') → LiesIn size s → TypedLies (operation o s t u)
  operated_lies o s t u i =
      cond_both (is_logic o) _ (typed Bool' (give (not (comparable_types o t u)) (expression_fault code.NotComparable s []))) TypedLies (λ e. tt)
      (λ e. give_lies (not (comparable_types o t u)) (expression_fault code.NotComparable s []) i)

  -- ---- calls

  wrong_lie : (name : List ℕ) (ps : Parameters) (n : ℕ) (as' : List (Type' × Span)) → ArgsLie as' → AllLie size (wrong_arguments name ps n as')
  wrong_lie name ps n [] l = tt
  wrong_lie name ps n (a ∷ as') l =
      both_lie (give (not (accepts (parameter_at ps n) a.0)) (expression_fault code.ArgumentType a.1 (decimal (n + 1) ∷ name ∷ []))) (wrong_arguments name ps (n + 1) as')
      (give_lies (not (accepts (parameter_at ps n) a.0)) (expression_fault code.ArgumentType a.1 (decimal (n + 1) ∷ name ∷ [])) l.0) (wrong_lie name ps (n + 1) as' l.1)

  arguments_lie : (name : List ℕ) (at : Span) (ps : Parameters) (as' : List (Type' × Span)) → LiesIn size at → ArgsLie as' → AllLie size (argument_faults name at ps as')
  arguments_lie name at ps as' i l =
      cond_both (takes_count ps (length as')) (wrong_arguments name ps 0 as') (expression_fault code.ArgumentCount at (name ∷ []) ∷ []) (AllLie size) (λ e. wrong_lie name ps 0 as' l) (λ e. (i, tt))

  unused_lie : (n : ℕ) (us : List Bool) (as' : List (Type' × Span)) → ArgsLie as' → AllLie size (unused_arguments n us as')
  unused_lie n [] as' l = tt
  unused_lie n (u ∷ us) [] l = tt
  unused_lie n (u ∷ us) (a ∷ as') l =
      both_lie (give (not u) (expression_fault code.UnusedArgument a.1 (decimal (n + 2) ∷ []))) (unused_arguments (n + 1) us as')
      (give_lies (not u) (expression_fault code.UnusedArgument a.1 (decimal (n + 2) ∷ [])) l.0) (unused_lie (n + 1) us as' l.1)

  placeholders_lie : (at : Span) (o : Option (List Bool)) (as' : List (Type' × Span)) → LiesIn size at → ArgsLie as'
      → AllLie size (option_map_or (λ us. unused_arguments 0 us as') o (expression_fault code.WrongPlaceholder at [] ∷ []))
  placeholders_lie at None as' i l = (i, tt)
  placeholders_lie at (Some us) as' i l = unused_lie 0 us as' l

  text_lie : (o : Option (List ℕ × Span)) (as' : List (Type' × Span)) → LiteralLies o → ArgsLie as' → AllLie size (option_map_or (λ x. placeholder_faults x as') o [])
  text_lie None as' i l = tt
  text_lie (Some x) as' i l = placeholders_lie x.1 (used_arguments (length as') x.0) as' i l

  rest_lies : (as' : List (Type' × Span)) → ArgsLie as' → ArgsLie (drop 1 as')
  rest_lies [] l = tt
  rest_lies (a ∷ as') l = l.1

  format_lie : (f : Function) (ts : Arguments) (low : ℕ) (as' : List (Type' × Span)) → ArgumentsLie size low ts → ArgsLie as' → AllLie size (format_faults f ts as')
  format_lie Format (ArgumentThen t ts) low as' h l = text_lie (literal_text t) (drop 1 as') (literal_lies t low h.0) (rest_lies as' l)
  format_lie Format NoArgument low as' h l = tt
  format_lie _ ts low as' h l = tt

  with_lies : (sc : Scope) (b : List ℕ) (s : Span) (o : Option Function) (ts : Arguments) (low : ℕ) (as' : List (Type' × Span)) →
      LiesIn size s → ArgumentsLie size low ts → ArgsLie as' → TypedLies (call_from sc b s o ts as')
  with_lies sc b s None ts low as' i h l = (i, tt)
  with_lies sc b s (Some f) ts low as' i h l =
      both_lie (give (not (sc.available.functions f)) (expression_fault code.UnavailableFunction s (b ∷ [])) ++ argument_faults b s (signature f).parameters as') (format_faults f ts as')
      (both_lie (give (not (sc.available.functions f)) (expression_fault code.UnavailableFunction s (b ∷ []))) (argument_faults b s (signature f).parameters as')
      (give_lies (not (sc.available.functions f)) (expression_fault code.UnavailableFunction s (b ∷ [])) i) (arguments_lie b s (signature f).parameters as' i l))
      (format_lie f ts low as' h l)

  called_lies : (sc : Scope) (b : List ℕ) (s : Span) (o : Option Function) (ts : Arguments) (low : ℕ) (all : List (Type' × Span) × List Fault) →
      LiesIn size s → ArgumentsLie size low ts → AllTypedLies all → TypedLies (call sc b s o ts all)
  called_lies sc b s o ts low all i h l = after_lies all.1 (call_from sc b s o ts all.0) l.1 (with_lies sc b s o ts low all.0 i h l.0)

  one_more_lies : (x : Typed) (s : Span) (all : List (Type' × Span) × List Fault) → TypedLies x → LiesIn size s → AllTypedLies all
      → AllTypedLies (argument_then x s all)
  one_more_lies (typed t fs) s all a i l = ((i, l.0), both_lie fs all.1 a l.1)

  -- ---- trees

  mutual
    pub meaning_lies : (t : Tree) (sc : Scope) (safe : Bool) (low : ℕ) → TreeLies size low t → TypedLies (meaning sc safe t)
    meaning_lies (Named b s) sc safe low l = named_lies sc b s (context_of b) l.1
    meaning_lies (Call b s ts e) sc safe low l =
        called_lies sc b s (function_of b) ts s.start (meanings sc (safe || is_test (function_of b)) ts) l.1 l.2
        (meanings_lie ts sc (safe || is_test (function_of b)) s.start l.2)
    meaning_lies (Group t s e) sc safe low l = meaning_lies t sc safe s.start l.2
    meaning_lies (Negated s t) sc safe low l = then_lies (meaning sc true t) (λ u. typed Bool' []) (meaning_lies t sc true s.start l.2) (λ u. tt)
    meaning_lies (Path t ss) sc safe low l =
        then_lies (and_then (meaning sc safe t) (λ u. walk sc safe ss u)) (λ u. typed u (untrusted_faults (sc.in_run && not safe) t ss))
        (then_lies (meaning sc safe t) (λ u. walk sc safe ss u) (meaning_lies t sc safe low l.0) (λ u. walked_lies ss sc safe (start_of t) u l.1))
        (λ u. untrusted_lies (sc.in_run && not safe) t ss (whole_lies size low (Path t ss) l))
    meaning_lies (Chain t os) sc safe low l =
        then_lies (meaning sc (safe || not (begins_logic os)) t) (λ u. operations sc (safe || not (begins_logic os)) os u)
        (meaning_lies t sc (safe || not (begins_logic os)) low l.0) (λ u. chained_lies os sc (safe || not (begins_logic os)) (start_of t) u l.1)
    meaning_lies _ sc safe low l = tt

    walked_lies : (ss : PathSteps) (sc : Scope) (safe : Bool) (low : ℕ) (u : Type') → StepsLie size low ss → TypedLies (walk sc safe ss u)
    walked_lies NoStep sc safe low u l = tt
    walked_lies (PropertyThen d b s ss) sc safe low u l =
        then_lies (property_of b s (across d s) u) (λ v. walk sc safe ss v) (property_lies b s (across d s) u l.3 (across_lies d s l.2 l.3))
        (λ v. walked_lies ss sc safe low v l.4)
    walked_lies (AllThen a b ss) sc safe low u l =
        then_lies (filter_of (across a b) u) (λ v. walk sc safe ss v) (all_lies (across a b) u (across_lies a b l.2 l.3))
        (λ v. walked_lies ss sc safe low v l.4)
    walked_lies (IndexThen a t b ss) sc safe low u l =
        then_lies (index_from (literal_text t) (across a b) u (meaning sc safe t)) (λ v. walk sc safe ss v)
        (indexed_lies (literal_text t) (across a b) u (meaning sc safe t) (literal_lies t low l.2) (across_lies a b l.3 l.4) (meaning_lies t sc safe low l.2))
        (λ v. walked_lies ss sc safe low v l.5)

    chained_lies : (os : Operands) (sc : Scope) (safe : Bool) (low : ℕ) (u : Type') → OperandsLie size low os → TypedLies (operations sc safe os u)
    chained_lies NoOperand sc safe low u l = tt
    chained_lies (OperandThen (sign o s) t os) sc safe low u l =
        then_lies (meaning sc safe t) (λ v. and_then (operation o s u v) (λ w. operations sc safe os w)) (meaning_lies t sc safe low l.1)
        (λ v. then_lies (operation o s u v) (λ w. operations sc safe os w) (operated_lies o s u v l.0) (λ w. chained_lies os sc safe low w l.2))

    meanings_lie : (ts : Arguments) (sc : Scope) (safe : Bool) (low : ℕ) → ArgumentsLie size low ts → AllTypedLies (meanings sc safe ts)
    meanings_lie NoArgument sc safe low l = (tt, tt)
    meanings_lie (ArgumentThen t ts) sc safe low l =
        one_more_lies (meaning sc safe t) (extent t) (meanings sc safe ts) (meaning_lies t sc safe low l.0) (whole_lies size low t l.0) (meanings_lie ts sc safe low l.1)
