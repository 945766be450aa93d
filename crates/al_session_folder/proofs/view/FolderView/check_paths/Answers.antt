use Rattle.std.proofs.Common.{arith, ◌∙◌, ap, ℕ, List, map}
use Rattle.std.specs.Prelude.{IsSome}
use Rattle.std.proofs.lemmas.List.Elements.{All-from_recursion}
use Rattle.al_session_folder.specs.Folder.{bytes_at}
use Rattle.al_session_folder.specs.Kept.{faults_of}
use Rattle.al_session_folder.proofs.Answering.{map_both, raised_more}
use Rattle.al_session_folder.proofs.view.FolderView.check_paths.Goals as goal

pub check_path-requires : goal.check_path-requires
check_path-requires g c =
    let f = c.args.self.now in
    let P : List ℕ → Type 0 = λ q. IsSome (bytes_at f q) in
    rw (c.as_str.ensures.text ∙ c.at-item.is) (All-from_recursion P c.args.paths.now c.requires c.loop-at.at-index c.at-item.result (omega arith))

pub loop-at-preserved : goal.loop-at-preserved
loop-at-preserved g c = record {
  lists =
      let f = c.args.self.now in
      let m = g.L.Lint.meaning in
      ap (map (λ faults. faults.items)) c.in_ok-push.ensures.items
      ∙ map_both (λ faults. faults.items) (faults_of m f) c.loop-at.lists.items c.args.paths.now c.loop-at.at-index c.at-item.result c.in_ok-faults.faults (omega arith) c.loop-at.invariant.lists
      (c.in_ok-faults.ensures.faults ∙ ap (faults_of m f) (c.as_str.ensures.text ∙ c.at-item.is));
  checks = raised_more _ _ _ _ c.loop-at.invariant.checks c.in_ok-faults.ensures.checks;
  reads = cc;
}
