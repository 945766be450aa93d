use Rattle.std.proofs.Common.{append_assoc, ap, ◌≡◌, ◌∙◌, List, map}
use Rattle.std.specs.Option.{option_copied}
use Rattle.al_yaml_tree.specs.Node.{Node}
use Rattle.al_tree.specs.Files.{kind_in, root_of}
use Rattle.al_tree.specs.declared.files.FileKind.{FileKind}
use Rattle.al_tree.specs.declared.files.Tree.{Tree}
use Rattle.al_check_interfaces.specs.CallViews.{call_of}
use Rattle.al_check_interfaces.specs.Uses.{Call, calls_in}
use Rattle.al_check_calls.specs.AnswerViews.{answered_of}
use Rattle.al_check_calls.proofs.Short.{all_short}
use Rattle.al_check_calls.proofs.Told.{told_by_uses}
use Rattle.al_check.proofs.Short.{tree_short}
use Rattle.al_check.proofs.files.faults_with_answers.Goals as goal

-- the calls that the code found are those of the tree
calls_of_tree : (t : Tree) {k : FileKind} {n : Node} {cs : List Call} → k ≡ kind_in t → n ≡ root_of t → cs ≡ calls_in k n → cs ≡ calls_in (kind_in t) (root_of t)
calls_of_tree t kind root found = found ∙ λ i. calls_in (kind i) (root i)

pub known_outputs-requires : goal.known_outputs-requires
known_outputs-requires c =
    let kind = kind_in c.args.tree.now in
    let root = root_of c.args.tree.now in
    let calls = calls_of_tree c.args.tree.now c.kind.ensures c.root.ensures (ap (map call_of) c.as_slice.ensures.value ∙ c.in_ok-calls.ensures) in
    rw (c.as_slice-2.ensures.value, c.in_ok-answered.ensures kind root calls c.requires.calls)
    (told_by_uses kind root (map (λ a. option_copied a) c.args.answers.now) c.requires.answers)

pub expression_faults-requires-clause-laid : goal.expression_faults-requires-clause-laid
expression_faults-requires-clause-laid c = rw (c.in_ok-env.ensures.file, c.file.ensures.root, c.root-2.ensures) c.requires.laid

pub expression_faults-requires-clause-texts : goal.expression_faults-requires-clause-texts
expression_faults-requires-clause-texts c = rw (c.in_ok-env.ensures.file, c.file.ensures.root, c.root-2.ensures) c.requires.texts

pub check_calls-requires-clause-short : goal.check_calls-requires-clause-short
check_calls-requires-clause-short c =
    let kind = kind_in c.args.tree.now in
    let root = root_of c.args.tree.now in
    let calls = calls_of_tree c.args.tree.now c.kind.ensures c.root.ensures (ap (map call_of) c.as_slice.ensures.value ∙ c.in_ok-calls.ensures) in
    all_short c.as_slice-3.result.now kind root (map (λ a. option_copied a) c.args.answers.now)
    (ap (map answered_of) c.as_slice-3.ensures.value ∙ c.in_ok-answered.ensures kind root calls c.requires.calls)
    (tree_short root c.requires.laid c.requires.texts)

pub check_calls-requires-clause-answers : goal.check_calls-requires-clause-answers
check_calls-requires-clause-answers c =
    let kind = kind_in c.args.tree.now in
    let root = root_of c.args.tree.now in
    let calls = calls_of_tree c.args.tree.now c.kind.ensures c.root.ensures (ap (map call_of) c.as_slice.ensures.value ∙ c.in_ok-calls.ensures) in
    rw (c.as_slice-3.ensures.value, c.in_ok-answered.ensures kind root calls c.requires.calls)
    (told_by_uses kind root (map (λ a. option_copied a) c.args.answers.now) c.requires.answers)

pub returns : goal.returns
returns c =
    let kind = kind_in c.args.tree.now in
    let root = root_of c.args.tree.now in
    let calls = calls_of_tree c.args.tree.now c.kind.ensures c.root.ensures (ap (map call_of) c.as_slice.ensures.value ∙ c.in_ok-calls.ensures) in
    let made = c.in_ok-expression_faults.ensures in
    rw (
      made.ok,
      made.moved.file,
      c.in_ok-env.ensures.file,
      c.file.ensures.kind,
      c.kind-2.ensures,
      c.file.ensures.known,
      c.in_ok-known.ensures,
      c.file.ensures.root,
      c.root-2.ensures,
      c.as_slice-2.ensures.value,
      c.as_slice-3.ensures.value,
      c.in_ok-answered.ensures kind root calls c.requires.calls,
      append_assoc,
    ) at c.check_calls.ensures
