-- Directed graphs, and walks along their edges.
use Rattle.std.specs.Prelude.{◌↔◌, ℕ, List, [], map, Vec, Contains, slice_index_or}
use Rattle.std.specs.declared.alloc.Global.{Global}

-- for each node, the nodes that its edges lead to
abbrev pub edges_of : List (Vec ℕ Global) → List (List ℕ)
edges_of = map (λ v. v.items)

-- there is an edge from one node to another
abbrev pub Edge : List (List ℕ) → ℕ → ℕ → Type 0
Edge graph j k = Contains (slice_index_or graph j []) k

-- a walk from one node to another, possibly without edges
pub data Walk (graph : List (List ℕ)) (from : ℕ) : ℕ → Type 0 where
  here : Walk graph from from
  onward : (j k : ℕ) → Walk graph from j → Edge graph j k → Walk graph from k

-- two nodes are in one strongly connected component: each can be reached from the other
abbrev pub StronglyConnected : List (List ℕ) → ℕ → ℕ → Type 0
StronglyConnected graph j k = Walk graph j k × Walk graph k j

-- each graph has the reversed edges of the other
abbrev pub IsTranspose : List (List ℕ) → List (List ℕ) → Type 0
IsTranspose graph other = (j k : ℕ) → Edge graph j k ↔ Edge other k j
