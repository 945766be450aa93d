use Rattle.al_yaml_tree.proofs.LaidRoot.{tree-laid_in, tree-nested}
use Rattle.al_yaml_tree.proofs.laws.tree_spans.Goals as goal

pub returns : goal.returns
returns c = record {
  tree = tree-laid_in;
  nested = tree-nested;
}
