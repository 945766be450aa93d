use Rattle.std.proofs.Common.{map, sym, ap, ◌∙◌}
use Rattle.std.specs.Option.{option_copied}
use Rattle.al_session_folder.specs.Folder.{answer}
use Rattle.al_session_folder.proofs.Views.{never_lacking}
use Rattle.al_session_folder.proofs.Answering.{check_is, faults_there}
use Rattle.al_session_folder.proofs.view.FolderView.check_path.Goals as goal

pub check-requires-clause-small : goal.check-requires-clause-small
check-requires-clause-small g c = rw c.deref-2.ensures.value c.in-Some.ensures.kept.small

pub check-requires-clause-unit : goal.check-requires-clause-unit
check-requires-clause-unit g c = rw c.deref-2.ensures.value c.in-Some.ensures.kept.unit

pub check-requires-clause-answers : goal.check-requires-clause-answers
check-requires-clause-answers g c =
    let m = g.L.Lint.meaning in
    record {
      answer = answer m c.args.self.now;
      are =
          ap (map (λ a. option_copied a)) c.deref-3.ensures.value ∙ c.in_ok-found.ensures
          ∙ ap (map (answer m c.args.self.now)) (c.deref.ensures.value ∙ c.in-Some.ensures.kept.calls.targets ∙ ap (m.calls c.args.at.now) (sym c.deref-2.ensures.value));
    }

pub unreachable-requires : goal.unreachable-requires
unreachable-requires g c = never_lacking _ c.in_default.ensures.bytes c.requires

pub returns-clause-faults : goal.returns-clause-faults
returns-clause-faults g c =
    let m = g.L.Lint.meaning in
    let file = c.in-Some.file.now in
    check_is m c.args.self.now c.args.at.now file.bytes.items c.deref-2.result.now file.calls.targets.items _ _
    c.deref-2.ensures.value c.in-Some.ensures.kept.calls.targets (rw c.deref.ensures.value at c.in_ok-found.ensures)
    (c.in_ok-check.ensures.faults ∙ ap (λ given. m.faults c.args.at.now c.deref-2.result.now (map (λ a. option_copied a) given)) c.deref-3.ensures.value)
    ∙ faults_there m c.args.self.now c.args.at.now file.bytes.items (sym c.in-Some.ensures.bytes)
