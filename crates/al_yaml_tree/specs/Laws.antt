-- The tree of a file lies in the file, and so does its first fault.
use Rattle.std.specs.Prelude.{ℕ, List, length, Result, Ok, Err}
use Rattle.al_base.specs.Spans.{LiesIn}
use Rattle.al_scalar.specs.declared.faults.FaultAt.{FaultAt}
use Rattle.al_yaml_tree.specs.ByteFaults.{fault_span}
use Rattle.al_yaml_tree.specs.Node.{Node}
use Rattle.al_yaml_tree.specs.Spans.{IsLaidIn}

-- Each node lies in the file, that of an alias at its anchor, and so does its text; a fault's span
-- lies in the file.
abbrev pub IsTreeLaid : List ℕ → Result Node FaultAt → Type 0
IsTreeLaid bytes (Ok root) = IsLaidIn (length bytes) (length bytes) root
IsTreeLaid bytes (Err f) = LiesIn (length bytes) (fault_span bytes f.at)
