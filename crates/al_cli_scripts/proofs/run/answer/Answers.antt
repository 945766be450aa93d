use Rattle.std.proofs.Common.{◌≡◌, ◌++◌, ◌∙◌, ℕ, List, Option, ap, codes, subst}
use Rattle.std.specs.Fmt.{decimal}
use Rattle.std.proofs.lemmas.Result.{err_from_is_err_and, on_err_weaker}
use Rattle.al_base.specs.Counted.{AppendsPrefix}
use Rattle.al_base.proofs.Bytes.{AppendsPrefix-after, AppendsPrefix-all, AppendsPrefix-wider}
use Rattle.al_session.specs.Report.{report_of, status_of}
use Rattle.al_session.specs.Session.{SessionState}
use Rattle.al_check.specs.Linting.{linting}
use Rattle.al_cli_scripts.proofs.Replying.{put_allowed, delete_allowed}
use Rattle.al_cli_scripts.proofs.run.answer.Goals as goal

pub returns-in-Put-clause-memory : goal.returns-in-Put-clause-memory
returns-in-Put-clause-memory g c = λ h.
    rw c.in-Put.is
    (put_allowed linting c.args.session.now.folder c.in-Put.path.now c.reply_to_edit.result c.put.result _ _ c.reply_to_edit.ensures.err h c.in-Put.bytes.now c.put.ensures.refused)

pub returns-in-Delete-clause-memory : goal.returns-in-Delete-clause-memory
returns-in-Delete-clause-memory g c = λ h.
    rw c.in-Delete.is
    (delete_allowed linting c.args.session.now.folder c.in-Delete.path.now c.reply_to_edit-in-Delete.result c.delete.result _ _ c.reply_to_edit-in-Delete.ensures.err h c.delete.ensures.refused)

abbrev status_line : ℕ → List ℕ
status_line status = codes "status " ++ decimal status ++ codes "\n"

-- the status by an equal number
status_front : (old new : Option (List ℕ)) (m n : ℕ) → m ≡ n → AppendsPrefix old new (status_line m) → AppendsPrefix old new (status_line n)
status_front old new m n e w = subst (λ k. AppendsPrefix old new (status_line k)) e w

pub returns-in_err-status-in-Report-clause-err : goal.returns-in_err-status-in-Report-clause-err
returns-in_err-status-in-Report-clause-err g c =
    let folder = c.args.session.now.folder in
    let p = err_from_is_err_and c.from_residual-in_err-status-in-Report.result c.from_residual-in_err-status-in-Report.ensures.1 in
    rw (p.1, c.in-Report.is) (AppendsPrefix-wider _ _ (report_of c.args.format linting folder) (status_line (status_of linting folder))
    (AppendsPrefix-all _ _ (report_of c.args.format linting folder) c.in_ok-report-in-Report.ensures.all))

pub returns-in_ok-status-in-Report-clause-err : goal.returns-in_ok-status-in-Report-clause-err
returns-in_ok-status-in-Report-clause-err g c =
    let folder = c.args.session.now.folder in
    rw c.in-Report.is (on_err_weaker c.write_number.result
    (λ w. AppendsPrefix-after _ _ _ (report_of c.args.format linting folder) (status_line (status_of linting folder)) c.in_ok-report-in-Report.ensures.all
    (status_front _ _ c.from.result (status_of linting folder) (c.from.ensures ∙ c.in_ok-status-in-Report.ensures.status
    ∙ ap (λ (s : SessionState). status_of linting s.folder) c.report.ensures.unchanged) w))
    c.write_number.ensures.prefix)
