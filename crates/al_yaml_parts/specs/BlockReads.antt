-- Terms of contracts for keys and slots of block collections.
use Rattle.std.specs.Prelude.{ℕ, ◌<◌, ◌≤◌, List, length, ◌==◌, nat_lt, if◌then◌else◌, Option, Some}
use Rattle.std.specs.Prelude.{None, IfSome, Result, Ok}
use Rattle.al_base.specs.declared.codes.YamlCode.TheVariants as yaml
use Rattle.al_scalar.specs.Line.{Line, start, blanks_dropped, past}
use Rattle.al_scalar.specs.ReadScalar.{read_of}
use Rattle.al_scalar.specs.Places.{lines_at}
use Rattle.al_scalar.specs.Taken.{fault}
use Rattle.al_scalar.specs.declared.faults.FaultAt.{FaultAt}
use Rattle.al_yaml_tree.specs.Content as content
use Rattle.al_yaml_tree.specs.Keys as keys
use Rattle.al_yaml_parts.specs.Places.{IsReadInside}
use Rattle.al_yaml_tree.specs.Blocks as block
use Rattle.al_yaml_parts.specs.declared.slots.Slot.{Slot}
use Rattle.al_yaml_parts.specs.declared.slots.Spot.{Spot}
use Rattle.al_yaml_parts.specs.declared.slots.Spot.TheVariants as spot
use Rattle.al_yaml_parts.specs.declared.keys.Key.{Key}

abbrev pub key_seen : List ℕ → Key → keys.Key
key_seen bytes key = record { read = read_of bytes key.read; after = lines_at bytes key.after }

abbrev pub option_key : List ℕ → Option Key → Option keys.Key
option_key bytes None = None
option_key bytes (Some key) = Some (key_seen bytes key)

pub record IsKeyAfter (bytes : List ℕ) (at : ℕ) (key : Key) : Type 0 where
  pub read : IsReadInside bytes at key.read
  pub from : key.read.next < key.after
  pub inside : key.after ≤ length bytes

abbrev pub IsOptionKey : List ℕ → ℕ → Option Key → Type 0
IsOptionKey bytes at None = Unit {0}
IsOptionKey bytes at (Some key) = IsKeyAfter bytes at key

-- the lines after the colon that follows a scalar
abbrev pub after_colon_in_block : List Line → Option (List Line)
after_colon_in_block ls = if keys.has_colon ls
    then Some (past 1 (blanks_dropped ls)) else None

-- the next entry of a collection in a column, on the next content line, if there is one
abbrev pub next_found : ℕ → content.Next → Result (Option (List Line)) FaultAt
next_found column content.ended = Ok None
next_found column (content.at_line i left) =
    if i == column then Ok (Some left)
    else (if nat_lt i column then Ok None else fault yaml.WrongIndentation (start left))

abbrev pub spot_of : Spot → block.Spot
spot_of spot.OwnLine = block.own_line
spot_of (spot.Compact tab) = block.compact tab
spot_of spot.AfterKey = block.after_key

abbrev pub slot_of : Slot → block.Slot
slot_of s =
    record { spot = spot_of s.spot; within = s.within; in_mapping = s.in_mapping; empty = s.empty }

-- the tab before a compact collection is in the file
abbrev pub IsTabInside : ℕ → Spot → Type 0
IsTabInside size s = IfSome (block.tab_before (spot_of s)) (λ tab. tab ≤ size)
