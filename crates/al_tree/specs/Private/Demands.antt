-- The faults of a node, given what its place demands.
use Rattle.std.specs.Prelude.{List, []}
use Rattle.std.specs.Option.{option_map_or}
use Rattle.al_base.specs.declared.faults.Fault.{Fault}
use Rattle.al_base.specs.declared.faults.Span.{Span}
use Rattle.al_scalar.specs.Scalar.{Scalar}
use Rattle.al_yaml_tree.specs.Node.{Node}
use Rattle.al_yaml_tree.specs.View.{entries_of}
use Rattle.al_tree.specs.Faults.{entries_faults, faults, keyed_faults, mapping_shape}
use Rattle.al_tree.specs.Keys.{keys_in}
use Rattle.al_base.specs.Names.{among}
use Rattle.al_tree.specs.Table.{rule}
use Rattle.al_tree.specs.declared.check.Demand as rust

-- the faults of a node at a place with this demand
abbrev pub demanded_faults : rust.Demand → Node → List Fault
demanded_faults demand n = faults demand.shape demand.takes_null demand.above.now n

-- the faults of a mapping with these entries there
abbrev pub mapping_faults : rust.Demand → Span → List (Scalar × Node) → List Fault
mapping_faults demand at es =
    let all = among (keys_in es) in
    option_map_or (λ r. keyed_faults r.keys_of demand.above.now all at
    (λ ks. entries_faults ks [] all (entries_of es)))
    (rule (mapping_shape demand.shape es)) []
