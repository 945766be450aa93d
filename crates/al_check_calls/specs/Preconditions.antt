-- What the calls of a file have to be like to be checked: their texts can have expressions, and one
-- file answers all steps, or all jobs, that call by one text.
use Rattle.std.specs.Prelude.{◌≡◌, ◌≤◌, ℕ, List, Option, length, IsUtf8}
use Rattle.std.specs.List.{AllByRecursion}
use Rattle.al_base.specs.declared.codes.Caller.{Caller}
use Rattle.al_base.specs.Limits.{longest_text}
use Rattle.al_scalar.specs.Scalar.{Scalar, text_of}
use Rattle.al_yaml_tree.specs.Node.{Node, Nodes, Entries, scalar, sequence, mapping, no_nodes, item}
use Rattle.al_yaml_tree.specs.Node.{no_entries, entry}
use Rattle.al_check_interfaces.specs.declared.interfaces.Interface.{Interface}
use Rattle.al_check_interfaces.specs.Uses.{site_caller}
use Rattle.al_check_calls.specs.Answers.{Answered}

-- each text of a node, keys included, is UTF-8 and short enough to have expressions
abbrev pub IsShort : Scalar → Type 0
IsShort s = IsUtf8 (text_of s) × (length (text_of s) ≤ longest_text)

abbrev mutual
  pub AreShort : Node → Type 0
  AreShort (scalar s) = IsShort s
  AreShort (sequence ns at) = ItemsShort ns
  AreShort (mapping es at) = EntriesShort es

  pub ItemsShort : Nodes → Type 0
  ItemsShort no_nodes = Unit {0}
  ItemsShort (item n ns) = AreShort n × ItemsShort ns

  pub EntriesShort : Entries → Type 0
  EntriesShort no_entries = Unit {0}
  EntriesShort (entry k v es) = IsShort k × AreShort v × EntriesShort es

-- calls whose answers depend only on the caller and the text
pub record AreToldByUses (found : List Answered) : Type 0 where
  pub answer : Caller → List ℕ → Option Interface
  pub told : AllByRecursion (λ a. a.answer ≡ answer (site_caller a.call.site) a.call.text) found
