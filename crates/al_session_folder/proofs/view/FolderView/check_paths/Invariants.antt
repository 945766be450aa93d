use Rattle.std.proofs.Common.{◌≡◌, map, take}
use Rattle.al_base.specs.Counted.{count_after}
use Rattle.al_session_folder.specs.Kept.{faults_of}
use Rattle.al_session_folder.proofs.view.FolderView.check_paths.Given as goal

abbrev pub invariant-loop-at : goal.invariant-loop-at
invariant-loop-at g l = record {
  lists : map (λ faults. faults.items) l.lists.items ≡ map (faults_of g.L.Lint.meaning l.self) (take l.at-index l.paths);
  checks : g.L.Lint.checks_of l.lint ≡ count_after (g.L.Lint.checks_of l.fn.lint) l.at-index;
  reads : g.L.Lint.reads_of l.lint ≡ g.L.Lint.reads_of l.fn.lint;
}
