-- That the decoded text of each scalar of a tree, keys too, is UTF-8.
use Rattle.std.specs.Prelude.{IsUtf8}
use Rattle.al_scalar.specs.Scalar.{text_of}
use Rattle.al_yaml_tree.specs.Node.{Node, Nodes, Entries, Each, EachItem, EachEntry}

abbrev pub HasTexts : Node → Type 0
HasTexts = Each (λ s. IsUtf8 (text_of s)) (λ at inner. inner)

abbrev pub HaveTexts : Nodes → Type 0
HaveTexts = EachItem (λ s. IsUtf8 (text_of s)) (λ at inner. inner)

abbrev pub EntriesHaveTexts : Entries → Type 0
EntriesHaveTexts = EachEntry (λ s. IsUtf8 (text_of s)) (λ at inner. inner)
