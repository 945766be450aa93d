-- What holds of every file: each of its faults lies in it, and they are in the order of reports,
-- each once.
use Rattle.std.specs.Prelude.{◌≡◌, suc, Option, Some, None, option_map, ◌≤◌, ℕ, List, [], ◌∷◌, ◌++◌}
use Rattle.std.specs.Prelude.{length, map, Ok, Err, Result, IfOk}
use Rattle.std.specs.List.{AllByRecursion, cons_option, flat_map}
use Rattle.std.specs.Option.{option_map_or}
use Rattle.std.specs.Result.{result_ok}
use Rattle.std.proofs.Common.{ap, refl}
use Rattle.std.proofs.lemmas.List.Elements.{recursion_from_All}
use Rattle.al_scalar.specs.declared.faults.FaultAt.{FaultAt}
use Rattle.al_tree.proofs.ShapeSpans.{root_lies}
use Rattle.std.specs.List.Sorted.{IsStrictlySortedBy}
use Rattle.al_base.proofs.FaultLists.{AllByRecursion-fault_list, IsStrictlySortedBy-fault_list}
use Rattle.al_base.specs.FaultLists.{fault_cmp}
use Rattle.al_base.specs.Spans.{LiesIn}
use Rattle.al_base.specs.declared.faults.Fault.{Fault}
use Rattle.al_base.specs.Limits.{largest_file}
use Rattle.al_tree.specs.Files.{shape_of}
use Rattle.al_tree.specs.declared.files.FileKind.{FileKind}
use Rattle.al_yaml_tree.specs.Document.{tree_of}
use Rattle.al_yaml_tree.specs.Node.{Node}
use Rattle.al_yaml_tree.specs.Spans.{AreFrom, IsInside, IsLaid}
use Rattle.al_yaml_tree.proofs.LaidRoot.{tree-from, tree-inside, tree-laid, tree-laid_in}
use Rattle.al_yaml_tree.specs.Laws.{IsTreeLaid}
use Rattle.al_check_expressions.proofs.Inside.{expression_faults_lie}
use Rattle.al_check_expressions.specs.FileExpressions.{expression_faults}
use Rattle.al_base.specs.declared.codes.CallCode.TheVariants.{CallCycle}
use Rattle.al_check_interfaces.specs.Uses.{Call, calls_in, cycle_faults, target_in, targets_of}
use Rattle.al_check_interfaces.specs.Uses.{that_uses}
use Rattle.al_check_interfaces.proofs.Inside.{calls_lie, wrong_uses_lie}
use Rattle.al_lint.specs.declared.lint.Target.{Target}
use Rattle.al_check.specs.Calling.{file_targets}
use Rattle.al_check.specs.Sites.{file_sites}
use Rattle.al_check_calls.proofs.Inside.{call_faults_lie}
use Rattle.al_check_calls.specs.Answers.{call_faults_in, calls_with_answers}
use Rattle.al_check_calls.specs.Outputs.{known_from_calls}
use Rattle.al_check_calls.specs.Types.{typing}
use Rattle.al_expr_typing.proofs.Inside.{both_lie}
use Rattle.al_rules.proofs.Lying.{rules_lie}
use Rattle.al_tree.specs.Faults.{root_faults}
use Rattle.al_check.specs.FileFaults.{document_faults, faults_with_answers, file_faults}
use Rattle.al_check.specs.FileFaults.{own_faults, printed_fault}
use Rattle.al_rules.specs.Rules.{rule_faults}
use Rattle.al_check_interfaces.specs.Uses.{wrong_uses}
use Rattle.al_base.specs.declared.codes.Code.TheVariants as code
use Rattle.al_yaml_tree.specs.ByteFaults.{fault_span}
use Rattle.al_check_interfaces.specs.declared.interfaces.Interface.{Interface}

abbrev AllLie : ℕ → List Fault → Type 0
AllLie size faults = AllByRecursion (λ (f : Fault). LiesIn size f.span) faults

printed_lie : (size : ℕ) (faults : List Fault) → AllLie size faults
    → AllLie size (map printed_fault faults)
printed_lie size [] l = tt
printed_lie size (f ∷ fs) l = (l.0, printed_lie size fs l.1)

abbrev CallLies : ℕ → Call → Type 0
CallLies size c = LiesIn size c.at × IsInside size c.site.node

module _ (size : ℕ) (kind : FileKind) (root : Node) (i : IsInside size root) (w : IsLaid size root)
    (f : AreFrom size root)
    (answers : List (Option Interface)) where
  with_answers_lie : AllLie size (faults_with_answers kind root answers)
  with_answers_lie =
      let known = known_from_calls (calls_with_answers (calls_in kind root) answers) in
      let types = typing kind known root in
      both_lie size (expression_faults kind known root) (call_faults_in kind types root answers)
      (expression_faults_lie size kind known root w f)
      (call_faults_lie size kind types root answers i)

  abbrev all_faults : List Fault
  all_faults = own_faults kind root ++ faults_with_answers kind root answers

  found_lie : AllLie size all_faults
  found_lie =
      both_lie size (own_faults kind root) (faults_with_answers kind root answers)
      (both_lie size (root_faults (shape_of kind) root ++ rule_faults kind root)
      (flat_map wrong_uses (calls_in kind root))
      (both_lie size (root_faults (shape_of kind) root) (rule_faults kind root)
      (recursion_from_All (λ (x : Fault). LiesIn size x.span) (root_faults (shape_of kind) root)
      (root_lies size (shape_of kind) root i))
      (rules_lie size kind root w))
      (wrong_uses_lie size (calls_in kind root) (calls_lie size kind root i)))
      with_answers_lie

  document_lies : AllLie size (document_faults kind root answers)
  document_lies =
      AllByRecursion-fault_list (λ (x : Fault). LiesIn size x.span) (map printed_fault all_faults)
      (printed_lie size all_faults found_lie)

abbrev pub faults_given : FileKind → List ℕ → List (Option Interface) → Result Node FaultAt
    → List Fault
faults_given kind bytes answers read = elim read [
  | Ok root ↦ document_faults kind root answers
  | Err fault ↦ record { span = fault_span bytes fault.at; code = code.Yaml fault.code; args = [] }
      ∷ []
]

given_lies : (kind : FileKind) (bytes : List ℕ) (answers : List (Option Interface))
    (read : Result Node FaultAt) →
    IsTreeLaid bytes read → IfOk read (IsInside (length bytes)) → IfOk read (IsLaid (length bytes))
    → IfOk read (AreFrom (length bytes)) →
    AllLie (length bytes) (faults_given kind bytes answers read)
given_lies kind bytes answers (Ok root) there i w f =
    document_lies (length bytes) kind root i w f answers
given_lies kind bytes answers (Err fault) there i w f = (there, tt)

pub faults_inside : (kind : FileKind) (bytes : List ℕ) (answers : List (Option Interface))
    → length bytes ≤ largest_file →
    AllLie (length bytes) (file_faults kind bytes answers)
faults_inside kind bytes answers small =
    given_lies kind bytes answers (tree_of bytes) (tree-laid_in bytes) (tree-inside bytes)
    (tree-laid bytes small) (tree-from bytes)

one_sorted : (f : Fault) → IsStrictlySortedBy fault_cmp (f ∷ [])
unfolding IsStrictlySortedBy
one_sorted f = (tt, tt)

given_ordered : (kind : FileKind) (bytes : List ℕ) (answers : List (Option Interface))
    (read : Result Node FaultAt) →
    IsStrictlySortedBy fault_cmp (faults_given kind bytes answers read)
given_ordered kind bytes answers (Ok root) =
    IsStrictlySortedBy-fault_list (map printed_fault (own_faults kind root
    ++ faults_with_answers kind root answers))
given_ordered kind bytes answers (Err fault) = one_sorted _

pub faults_ordered : (kind : FileKind) (bytes : List ℕ) (answers : List (Option Interface)) →
    IsStrictlySortedBy fault_cmp (file_faults kind bytes answers)
faults_ordered kind bytes answers = given_ordered kind bytes answers (tree_of bytes)

-- each call has a site

sited_calls : (cs : List Call) → length (cycle_faults cs) ≡ length (targets_of cs)
sited_calls [] = refl
sited_calls (c ∷ cs) = put (target_in c.form) (sited_calls cs)
  where
    put : (o : Option Target) → length (cycle_faults cs) ≡ length (targets_of cs) →
        length (cons_option (option_map (λ t. that_uses CallCycle c) o) (cycle_faults cs))
        ≡ length (cons_option o (targets_of cs))
    put None h = h
    put (Some t) h = ap suc h

given_sited : (kind : FileKind) (read : Result Node FaultAt) →
    length (option_map_or (λ root. cycle_faults (calls_in kind root)) (result_ok read) [])
    ≡ length (option_map_or (λ root. targets_of (calls_in kind root)) (result_ok read) [])
given_sited kind (Ok root) = sited_calls (calls_in kind root)
given_sited kind (Err fault) = refl

pub each_sited : (kind : FileKind) (bytes : List ℕ) → length (file_sites kind bytes)
    ≡ length (file_targets kind bytes)
each_sited kind bytes = given_sited kind (tree_of bytes)

-- and it lies in the file

cycles_lie : (size : ℕ) (cs : List Call) → AllByRecursion (CallLies size) cs
    → AllLie size (cycle_faults cs)
cycles_lie size [] h = tt
cycles_lie size (c ∷ cs) h = put (target_in c.form) (cycles_lie size cs h.1)
  where
    put : (o : Option Target) → AllLie size (cycle_faults cs) →
        AllLie size (cons_option (option_map (λ t. that_uses CallCycle c) o) (cycle_faults cs))
    put None rest = rest
    put (Some t) rest = (h.0.0, rest)

given_sites_lie : (kind : FileKind) (bytes : List ℕ) (read : Result Node FaultAt)
    → IfOk read (IsInside (length bytes)) →
    AllLie (length bytes) (option_map_or (λ root. cycle_faults (calls_in kind root))
    (result_ok read) [])
given_sites_lie kind bytes (Ok root) i =
    cycles_lie (length bytes) (calls_in kind root) (calls_lie (length bytes) kind root i)
given_sites_lie kind bytes (Err fault) i = tt

pub sites_inside : (kind : FileKind) (bytes : List ℕ)
    → AllLie (length bytes) (file_sites kind bytes)
sites_inside kind bytes = given_sites_lie kind bytes (tree_of bytes) (tree-inside bytes)
