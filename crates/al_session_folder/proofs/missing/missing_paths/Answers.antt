use Rattle.std.proofs.Common.{arith, ap, sym, ◌∙◌, subst, List, ℕ}
use Rattle.std.specs.List.Sorted.{IsStrictlySortedBy}
use Rattle.std.specs.Ordering.{nat_cmp}
use Rattle.std.specs.Cmp.Lexicographic.{slice_cmp}
use Rattle.std.proofs.lemmas.List.{length-map, take_all}
use Rattle.std.proofs.lemmas.Option.{get_or_from_slice_get}
use Rattle.al_base.specs.InOrder.{in_order}
use Rattle.al_session_folder.specs.Affected.{is_among}
use Rattle.al_session_folder.proofs.MissingPaths.{missing_members}
use Rattle.al_session_folder.specs.Kept.{folder_of, referents}
use Rattle.al_session_folder.specs.Missing.{absent_candidates}
use Rattle.al_session_folder.proofs.Missings.{next_missing, missing_of, missing_sorted}
use Rattle.al_session_folder.proofs.Referring.{next_referred}
use Rattle.al_session_folder.proofs.missing.missing_paths.Goals as goal

pub loop-index-preserved : goal.loop-index-preserved
loop-index-preserved g c =
    next_missing (λ e. absent_candidates (folder_of c.args.files.now.entries) e.1.calls.targets.items) (referents c.loop-index.missing.items)
    (referents c.add_absent.new.missing.items) c.args.files.now.entries c.loop-index.index (c.file_number.result.0.now, c.file_number.result.1.now)
    (omega (arith, c.len-index-end.ensures.len))
    (sym (get_or_from_slice_get c.args.files.now.entries c.loop-index.index (c.file_number.result.0.now, c.file_number.result.1.now) _ c.file_number.ensures))
    c.loop-index.invariant (rw c.deref.ensures.value at c.in_ok-add_absent.ensures)

pub loop-path-preserved : goal.loop-path-preserved
loop-path-preserved g c =
    next_referred c.deref-path-items.result.now c.loop-path.path-index c.path-item.result c.loop-path.paths.items c.push.new.self.items c.in_ok-owned_path.field-0
    (omega (arith, c.loop-path-test.true)) c.path-item.is (c.in_ok-owned_path.ensures ∙ c.as_str.ensures.text) c.loop-path.invariant c.in_ok-push.ensures.items

pub returns-clause-paths : goal.returns-clause-paths
returns-clause-paths g c =
    let files = c.args.files.now.entries in
    let whole = take_all c.loop-index.index files (omega (arith, c.len-index-end.ensures.len)) in
    let found = c.deref-path-items.result.now in
    let copied = take_all c.loop-path.path-index (referents found) (omega (arith, length-map found (λ p. p.now), c.loop-path-test.false)) in
    missing_of g.L.Lint.meaning g.L.Lint.is_unit files c.loop-path.paths.items c.requires.kept
    (rw copied at c.loop-path.invariant ∙ rw c.deref-path-items.ensures.value c.put_in_order.ensures ∙ ap (in_order (slice_cmp nat_cmp)) (rw whole at c.loop-index.invariant))

pub returns-clause-sorted : goal.returns-clause-sorted
returns-clause-sorted g c =
    subst (λ (l : List (List ℕ)). IsStrictlySortedBy (slice_cmp nat_cmp) l) (sym (returns-clause-paths g c)) (missing_sorted g.L.Lint.meaning (folder_of c.args.files.now.entries))

pub returns-clause-members : goal.returns-clause-members
returns-clause-members g c =
    λ p. ap (is_among p) (returns-clause-paths g c) ∙ missing_members g.L.Lint.meaning (folder_of c.args.files.now.entries) p
