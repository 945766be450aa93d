-- The places of a node that the program holds as a sequence or a mapping.
use Rattle.std.proofs.Common.{◌≡◌, Bool, List, [], ap, map, ◌∙◌, Vec}
use Rattle.std.specs.declared.alloc.Global.{Global}
use Rattle.std.specs.Option.{option_map_or}
use Rattle.al_base.specs.declared.faults.Span.{Span}
use Rattle.al_yaml_tree.specs.View.{entries_of, entry_view, nodes_of, view}
use Rattle.al_yaml_tree.specs.declared.node.Entry.{Entry}
use Rattle.al_yaml_tree.specs.declared.node.Node.{Node}
use Rattle.al_yaml_tree.specs.declared.node.Node.TheVariants.{Mapping, Sequence}
use Rattle.al_yaml_tree.proofs.ViewLemmas.{entries_again, view_mapping, view_sequence}
use Rattle.al_tree.specs.Faults.{mapping_shape}
use Rattle.al_tree.specs.Keys.{keys_in}
use Rattle.al_base.specs.Names.{among}
use Rattle.al_tree.specs.Table.{rule}
use Rattle.al_tree.specs.declared.table.Shape.{Shape}
use Rattle.al_tree.specs.declared.files.FileKind.{FileKind}
use Rattle.al_check_places.specs.Places.{places_of_node, places_of_entries, places_of_items, rule_or_any}
use Rattle.al_check_places.specs.Ways.{WayStep}

pub places_of_sequence : (k : FileKind) (s : Shape) (b : Bool) (way : List WayStep) (n : Node) (v : Vec Node Global) (at : Span) → n ≡ Sequence v at →
    places_of_node k s b way (view n) ≡ option_map_or (λ inner. places_of_items k inner way 0 (nodes_of (map view v.items))) (rule_or_any (rule s)).items []
places_of_sequence k s b way n v at e = ap (places_of_node k s b way) (view_sequence n v at e)

pub places_of_mapping : (k : FileKind) (s : Shape) (b : Bool) (way : List WayStep) (n : Node) (v : Vec Entry Global) (at : Span) → n ≡ Mapping v at →
    places_of_node k s b way (view n)
    ≡ places_of_entries k (rule_or_any (rule (mapping_shape s (map entry_view v.items)))).keys_of [] (among (keys_in (map entry_view v.items))) way (entries_of (map entry_view v.items))
places_of_mapping k s b way n v at e =
    ap (places_of_node k s b way) (view_mapping n v at e)
    ∙ ap (λ es. places_of_entries k (rule_or_any (rule (mapping_shape s es))).keys_of [] (among (keys_in es)) way (entries_of (map entry_view v.items))) (entries_again (map entry_view v.items))
