-- What the linter means.
use Rattle.al_lint.specs.Meaning.{Meaning}
use Rattle.al_tree.specs.Kinds.{is_accepted, file_kind}
use Rattle.al_check_interfaces.specs.declared.interfaces.Interface.{Interface}
use Rattle.al_check.specs.Calling.{file_interface, file_targets}
use Rattle.al_check.specs.FileFaults.{file_faults}
use Rattle.al_check.specs.Sites.{file_sites}

-- Only the kind of a file's path matters: a workflow's or an action's.
abbrev pub linting : Meaning Interface
linting = record {
  accepts = is_accepted;
  calls = λ path bytes. file_targets (file_kind path) bytes;
  interface = λ path bytes. file_interface (file_kind path) bytes;
  faults = λ path bytes answers. file_faults (file_kind path) bytes answers;
  sites = λ path bytes. file_sites (file_kind path) bytes;
}
