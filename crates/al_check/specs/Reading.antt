-- The results of reading a file.
use Rattle.std.specs.Prelude.{◌≡◌, ℕ, List, [], Result, Ok, Err}
use Rattle.al_scalar.specs.declared.faults.YamlFault.{YamlFault}
use Rattle.al_base.specs.Growth.{SameSet}
use Rattle.al_base.specs.declared.faults.Fault.{Fault}
use Rattle.al_base.specs.Limits.{largest_file}
use Rattle.al_tree.specs.declared.files.FileKind.{FileKind}
use Rattle.al_tree.specs.declared.files.Tree.{Tree}
use Rattle.al_tree.specs.Files.{kind_in, root_of}
use Rattle.al_yaml_tree.specs.ByteFaults.{fault_span}
use Rattle.al_yaml_tree.specs.Document.{tree_of}
use Rattle.al_yaml_tree.specs.Spans.{IsLaid}
use Rattle.al_yaml_tree.specs.Texts.{HasTexts}
use Rattle.al_check_interfaces.specs.FolderCalls.{AreCallsOf}
use Rattle.al_check_interfaces.specs.declared.calls.FolderCall.{FolderCall}
use Rattle.al_check.specs.FileFaults.{own_faults}
use Rattle.al_check.specs.declared.files.ReadFile.{ReadFile}

-- the document of these bytes, as a file of this kind
pub record IsTree (file : FileKind) (bytes : List ℕ) (t : Tree) : Type 0 where
  pub kind_is : kind_in t ≡ file
  pub root_is : tree_of bytes ≡ Ok (root_of t)
  pub laid : IsLaid largest_file (root_of t)
  pub texts : HasTexts (root_of t)

-- the YAML fault of these bytes
pub record IsFault (bytes : List ℕ) (f : YamlFault) : Type 0 where
  pub fault_is : tree_of bytes ≡ Err (record { code = f.code; at = f.span.start })
  pub span_is : f.span ≡ fault_span bytes f.span.start

abbrev pub IsGiven : FileKind → List ℕ → Result Tree YamlFault → Type 0
IsGiven file bytes (Ok t) = IsTree file bytes t
IsGiven file bytes (Err f) = IsFault bytes f

-- the same for a file that was read; one that isn't YAML has none
abbrev pub own_given : Result Tree YamlFault → List Fault
own_given (Ok t) = own_faults (kind_in t) (root_of t)
own_given (Err f) = []

-- its calls of files in the folder; a file that isn't YAML has none
abbrev pub CallsGiven : Result Tree YamlFault → List FolderCall → Type 0
CallsGiven (Ok t) calls = AreCallsOf (kind_in t) (root_of t) calls
CallsGiven (Err f) calls = calls ≡ []

pub record IsRead (read : ReadFile) (file : FileKind) (bytes : List ℕ) : Type 0 where
  pub given : IsGiven file bytes read.tree
  pub own : SameSet read.own.items (own_given read.tree)
  pub calls : CallsGiven read.tree read.calls.items
