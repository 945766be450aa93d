-- If the texts of a file are short, so are those of the nodes that call.
use Rattle.std.proofs.Common.{◌≡◌, ℕ, List, map, Option, Some, subst}
use Rattle.std.specs.Prelude.{All, IfSome}
use Rattle.std.specs.List.{AllByRecursion}
use Rattle.std.proofs.lemmas.List.Elements.{All-from_recursion, All-same}
use Rattle.al_scalar.specs.Scalar.{Scalar}
use Rattle.al_yaml_tree.specs.Access.{entries, nodes, scalar_in}
use Rattle.al_yaml_tree.specs.Node.{Node, Nodes, Entries, no_nodes, item, no_entries, entry}
use Rattle.al_yaml_tree.specs.View.{view}
use Rattle.al_tree.proofs.Kept.{AreKept, Pair, all_seen, entries_kept, scalar_kept}
use Rattle.al_tree.specs.Values.{entries_at, member_of}
use Rattle.al_tree.specs.declared.values.Member.{Member}
use Rattle.al_tree.specs.declared.files.FileKind.{FileKind}
use Rattle.al_check_interfaces.specs.declared.interfaces.Interface.{Interface}
use Rattle.al_check_interfaces.specs.Uses.{Call, calls_in}
use Rattle.al_check_interfaces.proofs.Parts.{calls_kept}
use Rattle.al_check_calls.specs.AnswerViews.{answered_of}
use Rattle.al_check_calls.specs.Answers.{Answered, calls_with_answers}
use Rattle.al_check_calls.specs.declared.answers.Answered as code
use Rattle.al_check_calls.proofs.Answering.{each_answered}
use Rattle.al_check_calls.specs.Preconditions.{AreShort, EntriesShort, IsShort, ItemsShort}

items_short : (ns : Nodes) → ItemsShort ns → AllByRecursion AreShort (nodes ns)
items_short no_nodes h = tt
items_short (item n ns) h = (h.0, items_short ns h.1)

pairs_short : (es : Entries) → EntriesShort es → AllByRecursion (Pair AreShort) (entries es)
pairs_short no_entries h = tt
pairs_short (entry k v es) h = ((h.0, h.1), pairs_short es h.2)

short_kept : AreKept AreShort IsShort
short_kept = record { items = λ ns at h. items_short ns h; pairs = λ es at h. pairs_short es h; scalars = λ s h. h }

abbrev CallIsShort : Call → Type 0
CallIsShort c = Unit {0} × AreShort c.site.node

calls_short : (k : FileKind) (root : Node) → AreShort root → AllByRecursion CallIsShort (calls_in k root)
calls_short k root h = calls_kept short_kept (λ at. Unit {0}) (λ s p. tt) k root h

abbrev AnsweredIsShort : Answered → Type 0
AnsweredIsShort a = CallIsShort a.call

-- the calls that the code found, with their answers
pub all_short : (as' : List code.Answered) (k : FileKind) (root : Node) (answers : List (Option Interface)) →
    map answered_of as' ≡ calls_with_answers (calls_in k root) answers → AreShort root → All (λ (a : code.Answered). AreShort (view a.call.site.node.now)) as'
all_short as' k root answers e h i d within =
    let all = All-from_recursion AnsweredIsShort _ (each_answered CallIsShort (calls_in k root) answers (calls_short k root h)) in
    (all_seen answered_of AnsweredIsShort as' (All-same AnsweredIsShort _ _ e all) i d within).1

-- the members that the code found under a key of a node
pub members_short : (ms : List Member) (k : List ℕ) (n : Node) → map member_of ms ≡ entries_at k n → AreShort n → All (λ (m : Member). AreShort (member_of m).1) ms
members_short ms k n e h i d within =
    let all = All-from_recursion (Pair AreShort) _ (entries_kept short_kept k n h) in
    (all_seen member_of (Pair AreShort) ms (All-same (Pair AreShort) _ _ e all) i d within).1

-- the scalar of a scalar node
pub scalar_short : (n : Node) (s : Scalar) → scalar_in n ≡ Some s → AreShort n → IsShort s
scalar_short n s e h = subst (λ o. IfSome o IsShort) e (scalar_kept short_kept n h)
