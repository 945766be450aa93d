use Rattle.std.proofs.Common.{ap}
use Rattle.al_session_folder.specs.FolderViews.{FolderChange}
use Rattle.al_session_folder.proofs.affected.PlannedChange.has_same_interface.Goals as goal

pub returns : goal.returns
returns g c =
    rw (c.interface-before.ensures, c.as_is.ensures, c.interface.ensures, c.after.ensures.folder, ap (λ (s : FolderChange). s.path) c.self.view_is) at c.is_same.ensures
