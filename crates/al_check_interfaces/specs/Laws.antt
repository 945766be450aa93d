-- The steps and jobs of any file lie in it, and so do their calls.
use Rattle.std.specs.Prelude.{ℕ}
use Rattle.std.specs.List.{AllByRecursion}
use Rattle.al_base.specs.Spans.{LiesIn}
use Rattle.al_tree.specs.declared.files.FileKind.{FileKind}
use Rattle.al_yaml_tree.specs.Node.{Node}
use Rattle.al_yaml_tree.specs.Spans.{IsInside}
use Rattle.al_check_interfaces.specs.Uses.{calls_in}

abbrev pub CallsLie : Type 0
CallsLie = (size : ℕ) (kind : FileKind) (root : Node) → IsInside size root →
    AllByRecursion (λ c. LiesIn size c.at × IsInside size c.site.node) (calls_in kind root)
