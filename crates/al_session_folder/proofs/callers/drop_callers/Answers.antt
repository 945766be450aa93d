use Rattle.std.proofs.Common.{refl, sym, ◌∙◌, arith, not}
use Rattle.std.specs.Prelude.{bytes_eq, string_bytes}
use Rattle.indexmap.specs.IndexSet.{contains_text}
use Rattle.al_session_folder.specs.Kept.{is_caller}
use Rattle.al_session_folder.proofs.Indexing.{dropped_else, dropped_next, dropped_then}
use Rattle.al_session_folder.proofs.callers.drop_callers.Goals.{then-not-contains, else-not-contains}
use Rattle.al_session_folder.proofs.callers.drop_callers.Goals as goal

pub loop-name-preserved : goal.loop-name-preserved
loop-name-preserved c = λ c' q.
    let name = string_bytes c.name-item.result in
    let here = bytes_eq q c.args.path.now in
    let is_among = rw c.as_str.ensures.value at c.contains.ensures in
    dropped_next (λ k. bytes_eq c' (string_bytes k)) c.as_slice-name-items.result.now c.loop-name.name-index
    c.name-item.result here (not (contains_text c.args.others.now c')) (is_caller c.args.callers.now c' q) _ _
    (omega arith) c.name-item.is (c.loop-name.invariant c' q) (elim c.if-not-contains.branch [
      | then-not-contains w ↦ rw w.callers-is (dropped_then c' name (contains_text c.args.others.now) here _ _ (sym is_among ∙ w.if-not-contains.true)
          (rw w.as_str-then-not-contains.ensures.value at (w.drop_caller.ensures c' q)))
      | else-not-contains w ↦ rw w.callers-is (dropped_else c' name (contains_text c.args.others.now) here _ _ (sym is_among ∙ w.if-not-contains.false) refl)
    ])
