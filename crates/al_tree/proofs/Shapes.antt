-- The faults of a node that is a sequence or a mapping in the code's view.
use Rattle.std.proofs.Common.{◌≡◌, ℕ, Bool, List, [], ap, map, ◌∙◌, Vec}
use Rattle.std.specs.declared.alloc.Global.{Global}
use Rattle.std.specs.Option.{option_map_or}
use Rattle.al_base.specs.declared.faults.Span.{Span}
use Rattle.al_yaml_tree.specs.View.{entries_of, entry_view, nodes_of, view}
use Rattle.al_yaml_tree.specs.declared.node.Entry.{Entry}
use Rattle.al_yaml_tree.specs.declared.node.Node.{Node}
use Rattle.al_yaml_tree.specs.declared.node.Node.TheVariants.{Mapping, Sequence}
use Rattle.al_yaml_tree.proofs.ViewLemmas.{entries_again, view_mapping, view_sequence}
use Rattle.al_base.specs.declared.codes.KeyCode.TheVariants.{WrongKind}
use Rattle.al_tree.specs.Faults.{entries_faults, faults, items_faults, keyed_faults, one_fault, mapping_shape}
use Rattle.al_tree.specs.Keys.{keys_in}
use Rattle.al_base.specs.Names.{among}
use Rattle.al_tree.specs.Table.{rule}
use Rattle.al_tree.specs.declared.table.Shape.{Shape}

pub faults_sequence : (s : Shape) (null : Bool) (above : List ℕ) (n : Node) (v : Vec Node Global) (at : Span) → n ≡ Sequence v at →
    faults s null above (view n)
    ≡ option_map_or (λ r. option_map_or (λ inner. items_faults inner above (nodes_of (map view v.items))) r.items (one_fault WrongKind at above)) (rule s) []
faults_sequence s null above n v at e = ap (faults s null above) (view_sequence n v at e)

pub faults_mapping : (s : Shape) (null : Bool) (above : List ℕ) (n : Node) (v : Vec Entry Global) (at : Span) → n ≡ Mapping v at →
    faults s null above (view n)
    ≡ option_map_or (λ r. keyed_faults r.keys_of above (among (keys_in (map entry_view v.items))) at
    (λ ks. entries_faults ks [] (among (keys_in (map entry_view v.items))) (entries_of (map entry_view v.items))))
    (rule (mapping_shape s (map entry_view v.items))) []
faults_mapping s null above n v at e =
    ap (faults s null above) (view_mapping n v at e)
    ∙ ap (λ es. option_map_or (λ r. keyed_faults r.keys_of above (among (keys_in es)) at
    (λ ks. entries_faults ks [] (among (keys_in es)) (entries_of (map entry_view v.items)))) (rule (mapping_shape s es)) [])
    (entries_again (map entry_view v.items))
