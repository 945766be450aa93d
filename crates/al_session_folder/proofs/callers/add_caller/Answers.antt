use Rattle.std.proofs.Common.{sym, ap, Some, false, is_some}
use Rattle.std.specs.Prelude.{string_bytes}
use Rattle.std.proofs.lemmas.Result.{on_err_weaker, on_ok_weaker}
use Rattle.indexmap.specs.IndexSet.{contains_text}
use Rattle.al_session_folder.specs.Kept.{is_caller}
use Rattle.al_session_folder.proofs.Indexing.{callers_set, added_to, stays, known_at, none_at}
use Rattle.al_session_folder.proofs.callers.add_caller.Goals as goal

pub returns-in-Some-clause-added : goal.returns-in-Some-clause-added
returns-in-Some-clause-added c =
    let w = c.add_name.new.names in
    let p = c.args.candidate.now in
    let old = c.args.callers.now in
    let here = sym c.in-Some.ensures.value in
    let set = callers_set old (c.get_mut.follows.lender w) p (Some w) ((c.get_mut.follows.holds w).3 (ap is_some here)) in
    on_ok_weaker c.add_name.result (added_to (is_caller old) _ p (contains_text w) (contains_text c.in-Some.known.now) set (known_at old p c.in-Some.known.now here) c.args.path.now)
    c.add_name.ensures.added

pub returns-in-Some-clause-as_before : goal.returns-in-Some-clause-as_before
returns-in-Some-clause-as_before c =
    let w = c.add_name.new.names in
    let p = c.args.candidate.now in
    let old = c.args.callers.now in
    let here = sym c.in-Some.ensures.value in
    let set = callers_set old (c.get_mut.follows.lender w) p (Some w) ((c.get_mut.follows.holds w).3 (ap is_some here)) in
    on_err_weaker c.add_name.result (stays (is_caller old) _ p (contains_text w) (contains_text c.in-Some.known.now) set (known_at old p c.in-Some.known.now here))
    c.add_name.ensures.as_before

pub returns-in_ok-insert-in-None-clause-added : goal.returns-in_ok-insert-in-None-clause-added
returns-in_ok-insert-in-None-clause-added c =
    let w = c.add_name-in-None.new.names in
    let p = c.args.candidate.now in
    let old = c.args.callers.now in
    let updates = rw c.get_mut.follows.holds-at-none at c.in_ok-insert-in-None.ensures.updates in
    let set = callers_set old c.insert.new.self (string_bytes c.in_ok-from_str-in-None.field-0) (Some w) updates in
    added_to (is_caller old) _ p (contains_text w) (λ _. false) (rw c.in_ok-from_str-in-None.ensures.ok at set) (none_at old p (sym c.in-None.ensures.value)) c.args.path.now
    (rw c.with_hasher-known.ensures.empty at c.in_ok-add_name-in-None.ensures.added)
