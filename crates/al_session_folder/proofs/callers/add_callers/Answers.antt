use Rattle.std.proofs.Common.{arith, sym, ap, ◌∙◌, take}
use Rattle.std.specs.Prelude.{bytes_eq, string_bytes}
use Rattle.std.specs.List.{list_any}
use Rattle.al_session_folder.specs.Kept.{is_caller}
use Rattle.al_session_folder.proofs.Indexing.{added_next, any_take, err_always}
use Rattle.al_session_folder.proofs.callers.add_callers.Goals as goal

pub loop-name-preserved : goal.loop-name-preserved
loop-name-preserved c = λ c' q. added_next (λ k. bytes_eq c' (string_bytes k)) c.as_slice-name-items.result.now c.loop-name.name-index
    c.name-item.result (bytes_eq q c.args.path.now) (is_caller c.args.callers.now c' q) _ _ (omega arith) c.name-item.is
    (c.loop-name.invariant c' q) (rw c.as_str.ensures.value at (c.in_ok-add_caller.ensures.added c' q))

pub returns-in_err-add_caller-clause-some : goal.returns-in_err-add_caller-clause-some
returns-in_err-add_caller-clause-some c =
    let names = c.as_slice-name-items.result.now in
    let i = c.loop-name.name-index in
    err_always c.from_residual.result (
      λ c'. list_any (λ k. bytes_eq c' (string_bytes k)) (take i names),
      λ c' h. ap (list_any (λ k. bytes_eq c' (string_bytes k))) (sym c.as_slice-name-items.ensures.keys) ∙ any_take (λ k. bytes_eq c' (string_bytes k)) names i h,
      λ c' q. c.in_err-add_caller.ensures.as_before c' q ∙ c.loop-name.invariant c' q,
    )
