-- What a stack of open collections stands for: what is still to be read after the node that is read
-- now.
use Rattle.std.specs.Prelude.{ℕ, ◌+◌, List, false, if◌then◌else◌, Option, Result, Ok}
use Rattle.al_base.specs.declared.codes.YamlCode.TheVariants as yaml
use Rattle.al_base.specs.Ascii.{ascii}
use Rattle.al_scalar.specs.Line.{Line, start, begins, past}
use Rattle.al_scalar.specs.Places.{first_text}
use Rattle.al_scalar.specs.Scalar.{ScalarRead}
use Rattle.al_scalar.specs.Taken.{fault}
use Rattle.al_scalar.specs.declared.faults.FaultAt.{FaultAt}
use Rattle.al_yaml_tree.specs.Content.{is_file_end}
use Rattle.al_yaml_tree.specs.Node.{Node, Nodes, Entries, sequence, mapping, with_item, with_entry}
use Rattle.al_yaml_tree.specs.Reading.{Reading, fails, Part, with_span}
use Rattle.al_yaml_tree.specs.Flow.{CollectionReader, gap, flow_items, flow_entries, flow_node_over}
use Rattle.al_yaml_tree.specs.Flow.{rest_after}
use Rattle.al_yaml_parts.specs.Answers.{Mark}

-- What comes after an item: a comma, with the lines of what follows it, or the closing bracket with
-- its end.
pub data After : Type 0 where
  goes_on : List Line → After
  closes : ℕ → List Line → After

abbrev pub after_item : ℕ → ℕ → List Line → Result After FaultAt
after_item opening close ls =
    if is_file_end ls then fault yaml.UnclosedFlow opening
    else (if begins (ascii ",") (first_text ls) then Ok (goes_on (gap false (past 1 ls)))
    else (if begins close (first_text ls) then Ok (closes (start ls + 1) (past 1 ls))
    else fault yaml.UnexpectedCharacter (start ls)))

-- What was read of an open flow collection, up to an item, an entry or the closer.
pub data Open : Type 0 where
  items : Nodes → Open
  entries : Entries → Open

-- What a flow collection waits with while a node in it is read: the items before it; the entries
-- before it and the key whose value it is; or the offset of a collection in the place of a key.
pub data Waiting : Type 0 where
  item : Nodes → Waiting
  value : Entries → ScalarRead → Waiting
  key : ℕ → Waiting

-- With its bracket's place, and the anchor of the node that it waits for.
pub record Frame : Type 0 where
  pub opening : ℕ
  pub mark : Option Mark
  pub waiting : Waiting

-- An open collection from here on; collection reads what begins with a bracket in it, turns bounds
-- what is still read.
abbrev pub open_rest : CollectionReader → ℕ → ℕ → ℕ → Open → List Line → Reading (Part Node)
open_rest collection turns depth opening (items done) ls =
    with_span sequence opening (flow_items (flow_node_over collection) turns opening depth done ls)
open_rest collection turns depth opening (entries done) ls =
    with_span mapping opening (flow_entries (flow_node_over collection) collection turns opening
    depth done ls)

-- the same from after the node that it waited for
abbrev pub waiting_rest : CollectionReader → ℕ → ℕ → ℕ → Waiting → Part Node → Reading (Part Node)
waiting_rest collection turns depth opening (item done) x =
    with_span sequence opening
    (rest_after (ascii "]")
    (λ left. flow_items (flow_node_over collection) turns opening depth (with_item done x.value)
    left) opening
    (with_item done x.value) x.left)
waiting_rest collection turns depth opening (value done k) x =
    with_span mapping opening
    (rest_after (ascii "}") (λ left.
    flow_entries (flow_node_over collection) collection turns opening depth
    (with_entry done k.scalar x.value) left) opening
    (with_entry done k.scalar x.value) x.left)
waiting_rest collection turns depth opening (key at) x = fails yaml.WrongKey at

abbrev pub frame_rest : CollectionReader → ℕ → ℕ → Frame → Part Node → Reading (Part Node)
frame_rest collection turns depth f x = waiting_rest collection turns depth f.opening f.waiting x
