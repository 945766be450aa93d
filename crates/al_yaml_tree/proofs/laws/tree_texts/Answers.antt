use Rattle.al_yaml_tree.proofs.LaidRoot.{tree-text}
use Rattle.al_yaml_tree.proofs.laws.tree_texts.Goals as goal

pub returns : goal.returns
returns c = tree-text
