-- Terms of contracts for keys and nodes of flow collections that are read up to a bracket.
use Rattle.std.specs.Prelude.{◌≡◌, ℕ, ◌<◌, ◌≤◌, List, length, true, Option, Some, None, Result, Ok}
use Rattle.std.specs.Prelude.{Err}
use Rattle.al_base.specs.declared.codes.YamlCode.TheVariants as yaml
use Rattle.al_scalar.specs.ReadScalar.{read_of}
use Rattle.al_scalar.specs.Places.{lines_at, text_at}
use Rattle.al_yaml_tree.specs.Node as tree
use Rattle.al_yaml_tree.specs.Content as content
use Rattle.al_yaml_tree.specs.Reading.{Reading, Part, fails, ◌>>=◌}
use Rattle.al_yaml_tree.specs.Flow.{CollectionReader}
use Rattle.al_yaml_tree.specs.Flow as flow
use Rattle.al_yaml_parts.specs.Places.{option_lines, IsReadInside}
use Rattle.al_yaml_parts.specs.Answers.{mark_of, noting}
use Rattle.al_yaml_parts.specs.Reads.{State, run, FailsWith, IsPartAfter, part_of}
use Rattle.al_yaml_parts.specs.declared.faults.ReadError.{ReadError}
use Rattle.al_yaml_parts.specs.declared.flow_nodes.FlowKey.{FlowKey}
use Rattle.al_yaml_parts.specs.declared.flow_nodes.FlowSlot.{FlowSlot}
use Rattle.al_yaml_parts.specs.declared.flow_nodes.FoundNode.{FoundNode}
use Rattle.al_yaml_parts.specs.declared.flow_nodes.FoundNode.TheVariants as found
use Rattle.al_yaml_parts.specs.declared.flow_nodes.FoundKey.{FoundKey}
use Rattle.al_yaml_parts.specs.declared.flow_nodes.FoundKey.TheVariants as found_key

abbrev pub flow_key_of : List ℕ → FlowKey → flow.FlowKey
flow_key_of bytes key =
    record { read = read_of bytes key.read; after = option_lines bytes key.colon }

abbrev pub IsColonInside : ℕ → ℕ → Option ℕ → Type 0
IsColonInside from size None = Unit {0}
IsColonInside from size (Some at) = (from ≤ at) × (at ≤ size)

pub record IsKeyInside (bytes : List ℕ) (at : ℕ) (key : FlowKey) : Type 0 where
  pub read : IsReadInside bytes at key.read
  pub colon : IsColonInside key.read.next (length bytes) key.colon

-- ---- what is found at an offset, for any reader of collections

-- a node that was read whole, or the bracket of a collection
abbrev pub Finds : List ℕ → (CollectionReader → Reading (Part tree.Node)) → ℕ → State
    → Result FoundNode ReadError → State → Type 0
Finds bytes reading depth before (Ok (found.Node p)) after =
    (c : CollectionReader) → run before (reading c) ≡ Ok (part_of bytes p, after)
Finds bytes reading depth before (Ok (found.Opens b)) after =
    (c : CollectionReader) → run before (reading c)
    ≡ noting (mark_of bytes b.anchor) (run after (c depth (lines_at bytes b.at)))
Finds bytes reading depth before (Err e) after =
    (c : CollectionReader) → FailsWith (reading c) before e

abbrev pub FindsKey : List ℕ → ℕ → (CollectionReader → Reading flow.FlowKey) → ℕ → State
    → Result FoundKey ReadError → State → Type 0
FindsKey bytes at reading depth before (Ok (found_key.Key k)) after =
    (c : CollectionReader) → run before (reading c) ≡ Ok (flow_key_of bytes k, after)
FindsKey bytes at reading depth before (Ok found_key.Opens) after =
    (c : CollectionReader) → run before (reading c)
    ≡ run after (c depth (lines_at bytes at) >>= (λ _. fails yaml.WrongKey at))
FindsKey bytes at reading depth before (Err e) after =
    (c : CollectionReader) → FailsWith (reading c) before e

-- a bracket in the file, at or after low
pub record IsBracket (bytes : List ℕ) (low at : ℕ) : Type 0 where
  pub from : low ≤ at
  pub inside : at < length bytes
  pub bracket : content.is_flow_start (text_at bytes at) ≡ true

abbrev pub IsFound : List ℕ → ℕ → FoundNode → Type 0
IsFound bytes from (found.Node p) = IsPartAfter bytes from p
IsFound bytes from (found.Opens b) = IsBracket bytes from b.at

-- a collection that was found has no anchor
abbrev pub IsBare : FoundNode → Type 0
IsBare (found.Node p) = Unit {0}
IsBare (found.Opens b) = b.anchor ≡ None

abbrev pub IsFoundKey : List ℕ → ℕ → FoundKey → Type 0
IsFoundKey bytes at (found_key.Key k) = IsKeyInside bytes at k
IsFoundKey bytes at found_key.Opens = IsBracket bytes at at

-- where a node is expected
abbrev pub flow_slot : FlowSlot → flow.FlowSlot
flow_slot slot = record { opening = slot.opening; empty = slot.empty }
