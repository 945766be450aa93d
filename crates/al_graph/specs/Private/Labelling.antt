-- Labels of a graph's nodes, which are positions in an order of them.
use Rattle.std.specs.Prelude.{◌≡◌, ◌+◌, ◌≤◌, ◌<◌, ◌⊎◌, ℕ, List, Option, Some, None, Contains}
use Rattle.std.specs.Prelude.{length, slice_index_or, sum_by}
use Rattle.al_graph.specs.Graphs.{Edge, Walk}
use Rattle.al_graph.specs.Private.Finishing.{node_at}

abbrev pub label_at : List (Option ℕ) → ℕ → Option ℕ
label_at labels k = slice_index_or labels k None

abbrev pub free_one : Option ℕ → ℕ
free_one None = 1
free_one (Some l) = 0

-- An order of all nodes in which, if an edge leads from a node to an earlier one, every node
-- between the two can reach the edge's start.
pub record IsBackward (graph : List (List ℕ)) (order : List ℕ) : Type 0 where
  pub all : (k : ℕ) → k < length graph → Contains order k
  pub inside : (k : ℕ) → Contains order k → k < length graph
  pub nested : (a b c : ℕ) → a ≤ c → c ≤ b → b < length order
      → Edge graph (node_at order b) (node_at order a) →
      Walk graph (node_at order c) (node_at order b)

-- The nodes of the list were labelled: each has a label now. Those that had none got this one and
-- were appended to the waiting nodes.
pub record Labels (nodes : List ℕ) (label : ℕ) (old new : List (Option ℕ)) (before after : List ℕ) :
    Type 0 where
  pub size : length new ≡ length old
  pub all : (k : ℕ) → Contains nodes k → (l : ℕ) × (label_at new k ≡ Some l)
  pub kept : (k l : ℕ) → label_at old k ≡ Some l → label_at new k ≡ Some l
  pub only : (k l : ℕ) → label_at new k ≡ Some l → (label_at old k ≡ Some l)
      ⊎ (Contains nodes k × (l ≡ label) × (label_at old k ≡ None))
  pub listed : (k l : ℕ) → label_at new k ≡ Some l → (label_at old k ≡ Some l) ⊎ Contains after k
  pub list_kept : (k : ℕ) → Contains before k → Contains after k
  pub list_only : (k : ℕ) → Contains after k → Contains before k ⊎ (label_at new k ≡ Some label)
  -- as many nodes were appended as got a label
  pub count : sum_by free_one new + length after ≡ sum_by free_one old + length before

-- node k is at position b ≤ l, and all nodes from there to position l lead to the one at position l
abbrev pub LeadsUp : List (List ℕ) → List ℕ → ℕ → ℕ → Type 0
LeadsUp graph order k l = (b : ℕ) × (b ≤ l) × (node_at order b ≡ k)
    × ((c : ℕ) → b ≤ c → c ≤ l → Walk graph (node_at order c) (node_at order l))

-- The invariant of labelling from the end of the order down to `at`. The waiting nodes have label
-- `at`, and their edges are still to be followed.
pub record IsLabelling (graph : List (List ℕ)) (order : List ℕ) (labels : List (Option ℕ)) (at : ℕ)
    (waiting : List ℕ) : Type 0 where
  pub size : length labels ≡ length graph
  pub low : (k l : ℕ) → label_at labels k ≡ Some l → at ≤ l
  pub high : (k l : ℕ) → label_at labels k ≡ Some l → l < length order
  pub done : (i : ℕ) → at ≤ i → i < length order
      → (l : ℕ) × (label_at labels (node_at order i) ≡ Some l)
  pub closed : (j k l : ℕ) → Edge graph j k → label_at labels j ≡ Some l →
      ((m : ℕ) × (label_at labels k ≡ Some m) × (l ≤ m)) ⊎ Contains waiting j
  pub opened : (k : ℕ) → Contains waiting k → label_at labels k ≡ Some at
  pub reached : (k l : ℕ) → label_at labels k ≡ Some l → Walk graph (node_at order l) k
  pub leads : (k l : ℕ) → label_at labels k ≡ Some l → LeadsUp graph order k l
