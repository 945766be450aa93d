-- What an alias counts of its node (YAML 1.2.2, 7.1), in counts that stay at their greatest value.
use Rattle.std.specs.Prelude.{◌≡◌, ℕ, ◌+◌, List, [], ◌∷◌, length, map}
use Rattle.al_scalar.specs.Scalar.{Scalar}
use Rattle.al_yaml_tree.specs.Access.{nodes, entries}
use Rattle.al_yaml_tree.specs.Limits.{most_counted}
use Rattle.al_yaml_tree.specs.Node.{Node, scalar, sequence, mapping, nodes_in, text_size, levels_in}
use Rattle.al_yaml_tree.specs.View.{view}
use Rattle.al_yaml_parts.specs.declared.sums.Sums.{Sums}
use Rattle.al_yaml_parts.specs.declared.sums.Uncounted.{Uncounted}
use Rattle.al_yaml_parts.specs.declared.sums.KeyOrNode.{KeyOrNode}
use Rattle.al_yaml_parts.specs.declared.sums.KeyOrNode.TheVariants as code

pub record IsSums (n : Node) (s : Sums) : Type 0 where
  pub nodes : s.nodes ≡ most_counted (nodes_in n)
  pub text : s.text ≡ most_counted (text_size n)
  pub levels : s.levels ≡ most_counted (levels_in n)

-- the keys and values of entries
abbrev pub members : List (Scalar × Node) → List Node
members [] = []
members (e ∷ es) = scalar e.0 ∷ e.1 ∷ members es

-- the children of a node, without their own children
abbrev pub inside : Node → List Node
inside (scalar s) = []
inside (sequence ns at) = nodes ns
inside (mapping es at) = members (entries es)

-- the bytes of a node's own text
abbrev pub own_text : Node → ℕ
own_text (scalar s) = length s.cells
own_text (sequence ns at) = 0
own_text (mapping es at) = 0

-- the level that a collection is
abbrev pub own_level : Node → ℕ
own_level (scalar s) = 0
own_level (sequence ns at) = 1
own_level (mapping es at) = 1

-- nodes inside this many collections
abbrev pub within : ℕ → List Node → List (Node × ℕ)
within levels ns = map (λ n. (n, levels)) ns

abbrev pub node_view : KeyOrNode → Node
node_view (code.Key s) = scalar s.now
node_view (code.Node n) = view n.now

abbrev pub uncounted_view : Uncounted → Node × ℕ
uncounted_view u = (node_view u.node, u.levels)

-- what is counted of a node itself, which is inside this many collections
pub record IsOwn (n : Node × ℕ) (s : Sums) : Type 0 where
  pub nodes : s.nodes ≡ 1
  pub text : s.text ≡ most_counted (own_text n.0)
  pub levels : s.levels ≡ most_counted (n.1 + own_level n.0)
