use Rattle.std.proofs.Common.{◌≡◌, map, take}
use Rattle.std.specs.Option.{option_copied}
use Rattle.al_session_folder.specs.Folder.{answer}
use Rattle.al_session_folder.proofs.view.FolderView.answers.Given as goal

abbrev pub invariant-loop-target : goal.invariant-loop-target
invariant-loop-target g l = map (λ a. option_copied a) l.found.items ≡ map (answer g.L.Lint.meaning l.self) (take l.target-index l.targets)
