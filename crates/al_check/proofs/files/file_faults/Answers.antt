use Rattle.std.proofs.Common.{◌∙◌, ◌++◌, ap, map, subst, sym}
use Rattle.std.specs.Option.{option_copied}
use Rattle.al_base.proofs.Sets.{set_moved_after}
use Rattle.al_base.specs.FaultLists.{fault_list}
use Rattle.al_base.specs.Growth.{SameSet}
use Rattle.al_tree.specs.Files.{kind_in, root_of}
use Rattle.al_check_interfaces.specs.FolderCalls.{AreCallsOf}
use Rattle.al_check.specs.FileFaults.{faults_with_answers, own_faults}
use Rattle.al_check.specs.Reading.{IsTree}
use Rattle.al_check.proofs.Given.{document_read, targets_called}
use Rattle.al_check.proofs.Sets.{one_list, same_list}
use Rattle.al_check.proofs.files.file_faults.Goals as goal

pub faults_with_answers-requires-clause-laid : goal.faults_with_answers-requires-clause-laid
faults_with_answers-requires-clause-laid c =
    let given : IsTree c.args.source.kind c.args.source.bytes.now c.in-Ok.tree = rw c.in-Ok.is at c.requires.read.given in
    given.laid

pub faults_with_answers-requires-clause-texts : goal.faults_with_answers-requires-clause-texts
faults_with_answers-requires-clause-texts c =
    let given : IsTree c.args.source.kind c.args.source.bytes.now c.in-Ok.tree = rw c.in-Ok.is at c.requires.read.given in
    given.texts

pub faults_with_answers-requires-clause-calls : goal.faults_with_answers-requires-clause-calls
faults_with_answers-requires-clause-calls c =
    let calls : AreCallsOf (kind_in c.in-Ok.tree) (root_of c.in-Ok.tree) c.args.file.now.calls.items = rw c.in-Ok.is at c.requires.read.calls in
    rw c.as_slice.ensures.value calls

pub faults_with_answers-requires-clause-answers : goal.faults_with_answers-requires-clause-answers
faults_with_answers-requires-clause-answers c =
    rw (← targets_called c.args.file.now c.args.source.kind c.args.source.bytes.now c.requires.read, c.in-Ok.is) at c.requires.answers

pub returns : goal.returns
returns c =
    let tree = c.in-Ok.tree in
    let kind = kind_in tree in
    let root = root_of tree in
    let given : IsTree c.args.source.kind c.args.source.bytes.now tree = rw c.in-Ok.is at c.requires.read.given in
    let own : SameSet c.args.file.now.own.items (own_faults kind root) = rw c.in-Ok.is at c.requires.read.own in
    let after = faults_with_answers kind root (map (λ a. option_copied a) c.args.answers.now) in
    let found = c.into_faults-found.result.items in
    let added : SameSet c.faults_with_answers.new.faults after = rw c.new-faults.ensures at c.in_ok-faults_with_answers.ensures in
    let moved = set_moved_after c.args.file.now.own.items found after c.add_copies.new.out.items
    (c.in_ok-add_copies.ensures.all ∙ ap (λ l. found ++ l) c.deref.ensures.value)
    (subst (λ l. SameSet l after) (sym c.into_faults-found.ensures) added) in
    c.fault_list.ensures ∙ ap fault_list c.in_ok-with_printed_args.ensures ∙ same_list _ _ moved ∙ one_list _ (own_faults kind root) after own
    ∙ document_read tree c.args.source.kind c.args.source.bytes.now (map (λ a. option_copied a) c.args.answers.now) given
