-- What a session keeps of a file that was read.
use Rattle.std.specs.Prelude.{◌≡◌, ℕ, List, [], map}
use Rattle.al_tree.specs.declared.files.FileKind.{FileKind}
use Rattle.al_check_interfaces.specs.declared.calls.FolderCall.{FolderCall}
use Rattle.al_check.specs.Calling.{file_interface, file_targets}
use Rattle.al_check.specs.FileFaults.{file_faults}
use Rattle.al_check.specs.Reading.{IsRead}
use Rattle.al_check.specs.Sites.{file_sites}
use Rattle.al_check.specs.declared.units.Brief.{Brief}
use Rattle.al_check.specs.declared.units.Checked.{Checked}
use Rattle.al_check.specs.declared.units.Unit.{Unit}
use Rattle.al_check.specs.declared.units.Unit.TheVariants as unit

-- these are the calls of files in the folder of a file of this kind with these bytes
pub record HasCalls (calls : List FolderCall) (kind : FileKind) (bytes : List ℕ) : Type 0 where
  pub targets : map (λ c. c.target) calls ≡ file_targets kind bytes
  pub sites : map (λ c. c.fault) calls ≡ file_sites kind bytes

pub record IsBriefOf (brief : Brief) (kind : FileKind) (bytes : List ℕ) : Type 0 where
  pub interface : brief.interface ≡ file_interface kind bytes
  pub calls : HasCalls brief.calls.items kind bytes

-- these are the interface and the faults of a file of this kind with these bytes, and it calls no
-- file in the folder
pub record IsCheckedOf (checked : Checked) (kind : FileKind) (bytes : List ℕ) : Type 0 where
  pub interface : checked.interface ≡ file_interface kind bytes
  pub calls : HasCalls [] kind bytes
  pub faults : checked.faults.items ≡ file_faults kind bytes []

abbrev pub IsUnit : Unit → FileKind → List ℕ → Type 0
IsUnit (unit.Whole file) kind bytes = IsRead file kind bytes
IsUnit (unit.Brief brief) kind bytes = IsBriefOf brief kind bytes
IsUnit (unit.Checked checked) kind bytes = IsCheckedOf checked kind bytes

abbrev pub calls_kept : Unit → List FolderCall
calls_kept (unit.Whole file) = file.calls.items
calls_kept (unit.Brief brief) = brief.calls.items
calls_kept (unit.Checked checked) = []
