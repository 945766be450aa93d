-- The texts of a file that was read are short enough to have expressions.
use Rattle.std.specs.Prelude.{IsUtf8}
use Rattle.al_base.specs.Limits.{largest_file}
use Rattle.al_scalar.specs.Scalar.{Scalar, text_of}
use Rattle.al_yaml_tree.specs.Node.{Node, Nodes, Entries, scalar, sequence, mapping, no_nodes, item, no_entries, entry}
use Rattle.al_yaml_tree.proofs.LaidLemmas.{Laid}
use Rattle.al_yaml_tree.specs.Spans.{AreLaid, EntriesLaid, IsLaid}
use Rattle.al_yaml_tree.specs.Texts.{EntriesHaveTexts, HasTexts, HaveTexts}
use Rattle.al_check_expressions.proofs.Places.{readable}
use Rattle.al_check_calls.specs.Preconditions.{AreShort, EntriesShort, IsShort, ItemsShort}

scalar_short : (s : Scalar) → Laid largest_file largest_file s → IsUtf8 (text_of s) → IsShort s
scalar_short s w t = (t, (readable s w.1 (w.0).inside).0)

mutual
  pub tree_short : (n : Node) → IsLaid largest_file n → HasTexts n → AreShort n
  tree_short (scalar s) w t = scalar_short s w t
  tree_short (sequence ns at) w t = items_short ns w.1 t
  tree_short (mapping es at) w t = entries_short es w.1 t

  items_short : (ns : Nodes) → AreLaid largest_file ns → HaveTexts ns → ItemsShort ns
  items_short no_nodes w t = tt
  items_short (item n ns) w t = (tree_short n w.0 t.0, items_short ns w.1 t.1)

  entries_short : (es : Entries) → EntriesLaid largest_file es → EntriesHaveTexts es → EntriesShort es
  entries_short no_entries w t = tt
  entries_short (entry k v es) w t = (scalar_short k w.0 t.0, tree_short v w.1 t.1, entries_short es w.2 t.2)
