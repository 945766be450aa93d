-- Each fault of a file's calls is within the file.
use Rattle.std.specs.Prelude.{ℕ, Bool, List, [], ◌∷◌, ◌++◌, codes, Option, Some, None, find}
use Rattle.std.proofs.Common.{cond}
use Rattle.std.specs.List.{AllByRecursion, flat_map}
use Rattle.std.specs.Option.{option_map_or}
use Rattle.al_base.specs.Spans.{LiesIn}
use Rattle.al_base.specs.declared.codes.CallCode.{CallCode}
use Rattle.al_base.specs.declared.codes.CallCode.TheVariants as code
use Rattle.al_base.specs.declared.codes.Caller.{Caller}
use Rattle.al_base.specs.declared.codes.Caller.TheVariants as caller
use Rattle.al_base.specs.declared.faults.Fault.{Fault}
use Rattle.al_base.specs.declared.faults.Span.{Span}
use Rattle.al_types.specs.Types.{Type', assignable_type}
use Rattle.al_check_objects.specs.Inputs.{input_type}
use Rattle.al_scalar.specs.Scalar.{Scalar}
use Rattle.al_yaml_tree.specs.Node.{Node, scalar, sequence, mapping, span_of}
use Rattle.al_yaml_tree.specs.Spans.{IsInside}
use Rattle.al_tree.proofs.Kept.{entries_kept}
use Rattle.al_tree.specs.Keys.{key_of}
use Rattle.al_check_interfaces.specs.Parameters.{is_parameter}
use Rattle.al_check_interfaces.specs.declared.interfaces.Interface.{Interface}
use Rattle.al_check_interfaces.specs.declared.interfaces.Interface.TheVariants.{Readable, Unreadable}
use Rattle.al_check_interfaces.specs.declared.interfaces.Parameter.{Parameter}
use Rattle.al_check_interfaces.specs.declared.interfaces.ParameterKind.{ParameterKind}
use Rattle.al_check_interfaces.specs.declared.interfaces.ParameterKind.TheVariants.{Input, Secret}
use Rattle.al_check_interfaces.specs.declared.interfaces.Signature.{Signature}
use Rattle.al_check_interfaces.specs.Uses.{Call, calls_in, that_uses, site_caller}
use Rattle.al_check_interfaces.proofs.Inside.{calls_lie, inside_kept}
use Rattle.al_base.proofs.Elements.{each_both, each_either, each_of}
use Rattle.al_check_calls.specs.Answers.{Answered, Typing, calls_with_answers, answered_faults, values_in}
use Rattle.al_check_calls.specs.CallFaults.{Given, absent_faults, call_fault, call_faults}
use Rattle.al_check_calls.specs.CallFaults.{given_by, is_callable, is_inherit, missing_name}
use Rattle.al_check_calls.specs.CallFaults.{names_against, passed_faults, type_faults}
use Rattle.al_check_calls.specs.CallFaults.{undefined_name, uses_faults, values_of, wrong_input}
use Rattle.al_check_calls.specs.Laws.{CallFaultsLie}
use Rattle.al_check_calls.proofs.Answering.{each_answered}

module _ (size : ℕ) where
  abbrev Lies : Fault → Type 0
  Lies f = LiesIn size f.span

  abbrev AllLie : List Fault → Type 0
  AllLie fs = AllByRecursion Lies fs

  abbrev Pair : Scalar × Node → Type 0
  Pair e = LiesIn size e.0.span × IsInside size e.1

  abbrev GivenLies : Given → Type 0
  GivenLies v = Pair v.0

  abbrev CallLies : Call → Type 0
  CallLies c = LiesIn size c.at × IsInside size c.site.node

  node_lies : (n : Node) → IsInside size n → LiesIn size (span_of n)
  node_lies (scalar s) i = i
  node_lies (sequence ns at) i = i.0
  node_lies (mapping es at) i = i.0

  unless : (b : Bool) (fs : List Fault) → AllLie fs → AllLie (cond b [] fs)
  unless b fs p = each_either Lies b [] fs tt p

  one_lies : (f : CallCode) (c : Call) (at : Span) (texts : List (List ℕ)) → LiesIn size at → AllLie (call_fault f c at texts ∷ [])
  one_lies f c at texts i = (i, tt)

  same_for_all : {X : Type 0} (f : X → List Fault) → ((x : X) → AllLie (f x)) → (xs : List X) → AllLie (flat_map f xs)
  same_for_all f h [] = tt
  same_for_all f h (x ∷ xs) = each_both Lies (f x) (flat_map f xs) (h x) (same_for_all f h xs)

  undefined_lies : (k : ParameterKind) (c : Call) (s : Signature) (e : Scalar × Node) → Pair e → AllLie (undefined_name k c s e)
  undefined_lies k c s e p = search (unless, one_lies)

  missing_lies : (k : ParameterKind) (c : Call) (s : Signature) → LiesIn size c.at → (i : Parameter) → AllLie (missing_name k c s i)
  missing_lies k c s at i = search (unless, one_lies)

  given_lie : (k : ParameterKind) (n : Node) → IsInside size n → AllByRecursion Pair (given_by k n)
  given_lie Input n i = entries_kept (inside_kept size) (codes "with") n i
  given_lie Secret n i = entries_kept (inside_kept size) (codes "secrets") n i

  names_lie : (k : ParameterKind) (c : Call) (s : Signature) → CallLies c → AllLie (names_against k c s)
  names_lie k c s p =
      let undefined = each_of Pair Lies (undefined_name k c s) (undefined_lies k c s) (given_by k c.site.node) (given_lie k c.site.node p.1) in
      search (each_both Lies, undefined, same_for_all (missing_name k c s) (missing_lies k c s p.0))

  type_lies : (c : Call) (e : Scalar × Node) (t : Type') (i : Parameter) → Pair e → AllLie (type_faults c e t i)
  type_lies c e t i p = unless (assignable_type t (input_type i.takes)) _ (node_lies e.1 p.1, tt)

  typed_lies : (c : Call) (v : Given) (o : Option Parameter) → GivenLies v → AllLie (option_map_or (type_faults c v.0 v.1) o [])
  typed_lies c v None p = tt
  typed_lies c v (Some i) p = type_lies c v.0 v.1 i p

  wrong_lies : (c : Call) (inputs : List Parameter) (v : Given) → GivenLies v → AllLie (wrong_input c inputs v)
  wrong_lies c inputs v p = typed_lies c v (find (is_parameter (key_of v.0)) inputs) p

  passed_lie : (by : Caller) (c : Call) (values : List Given) (s : Signature) → CallLies c → AllByRecursion GivenLies values → AllLie (passed_faults by c values s)
  passed_lie caller.Step c values s p v = names_lie Input c s p
  passed_lie caller.Job c values s p v =
      let wrong = flat_map (wrong_input c s.inputs) values in
      each_both Lies (wrong ++ names_against Input c s) (cond (is_inherit c.site.node) [] (names_against Secret c s))
      (each_both Lies wrong (names_against Input c s) (each_of GivenLies Lies (wrong_input c s.inputs) (wrong_lies c s.inputs) values v) (names_lie Input c s p))
      (unless (is_inherit c.site.node) (names_against Secret c s) (names_lie Secret c s p))

  answer_lies : (by : Caller) (c : Call) (values : List Given) (o : Option Signature) → CallLies c → AllByRecursion GivenLies values →
      AllLie (option_map_or (passed_faults by c values) o [])
  answer_lies by c values None p v = tt
  answer_lies by c values (Some s) p v = passed_lie by c values s p v

  absent_lies : (c : Call) (by : Caller) → LiesIn size c.at → AllLie (absent_faults c by)
  absent_lies c caller.Step i = tt
  absent_lies c caller.Job i = (i, tt)

  uses_lie : (c : Call) (answer : Option Interface) → LiesIn size c.at → AllLie (uses_faults c answer)
  uses_lie c None i = absent_lies c (site_caller c.site) i
  uses_lie c (Some Unreadable) i = tt
  uses_lie c (Some (Readable s)) i = unless (is_callable (site_caller c.site) s.role) (that_uses code.NotCallable c ∷ []) (i, tt)

  call_lies : (c : Call) (values : List Given) (answer : Option Interface) → CallLies c → AllByRecursion GivenLies values → AllLie (call_faults c values answer)
  call_lies c values answer p v = search (each_both Lies, uses_lie, answer_lies)

  values_lie : (typing : Scalar → Scalar → Type') (es : List (Scalar × Node)) → AllByRecursion Pair es → AllByRecursion GivenLies (values_of typing es)
  values_lie typing [] p = tt
  values_lie typing (e ∷ es) p = (p.0, values_lie typing es p.1)

  answered_lies : (typing : Typing) (a : Answered) → CallLies a.call → AllLie (answered_faults typing a)
  answered_lies typing a p =
      call_lies a.call (values_in typing a.call) a.answer p (values_lie (typing a.call.site) (given_by Input a.call.site.node) (given_lie Input a.call.site.node p.1))

pub call_faults_lie : CallFaultsLie
call_faults_lie size kind typing root answers i =
    each_of (λ a. CallLies size a.call) (Lies size) (answered_faults typing) (answered_lies size typing) (calls_with_answers (calls_in kind root) answers)
    (each_answered (CallLies size) (calls_in kind root) answers (calls_lie size kind root i))
