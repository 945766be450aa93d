-- The faults of any file's calls lie in the file.
use Rattle.std.specs.Prelude.{ℕ, List, Option}
use Rattle.std.specs.List.{AllByRecursion}
use Rattle.al_base.specs.Spans.{LiesIn}
use Rattle.al_base.specs.declared.faults.Fault.{Fault}
use Rattle.al_tree.specs.declared.files.FileKind.{FileKind}
use Rattle.al_yaml_tree.specs.Node.{Node}
use Rattle.al_yaml_tree.specs.Spans.{IsInside}
use Rattle.al_check_interfaces.specs.declared.interfaces.Interface.{Interface}
use Rattle.al_check_calls.specs.Answers.{Typing, call_faults_in}

abbrev pub CallFaultsLie : Type 0
CallFaultsLie =
    (size : ℕ) (kind : FileKind) (typing : Typing) (root : Node) (answers : List (Option Interface))
    →
    IsInside size root → AllByRecursion (λ (f : Fault). LiesIn size f.span)
    (call_faults_in kind typing root answers)
