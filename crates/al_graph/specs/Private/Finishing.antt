-- A depth-first search that finishes each node after those it leads to.
use Rattle.std.specs.Prelude.{◌≡◌, ◌+◌, ◌*◌, ◌≤◌, ◌<◌, ◌⊎◌, ℕ, List, [], ◌∷◌, Bool, Contains}
use Rattle.std.specs.Prelude.{length, map, slice_index_or, sum_by}
use Rattle.std.specs.List.{AllByRecursion}
use Rattle.al_graph.specs.Graphs.{Edge, Walk}
use Rattle.al_graph.specs.Private.Marks.{Marked, unmarked_one}
use Rattle.al_graph.specs.declared.finishing.Frame.{Frame}

-- a node on the stack, and those of its successors that are still to be looked at
abbrev pub frame_of : Frame → ℕ × List ℕ
frame_of f = (f.node, f.rest.now)

abbrev pub frames_of : List Frame → List (ℕ × List ℕ)
frames_of frames = map frame_of frames

abbrev pub nodes_of : List (ℕ × List ℕ) → List ℕ
nodes_of frames = map (λ f. f.0) frames

-- the node at a position of an order
abbrev pub node_at : List ℕ → ℕ → ℕ
node_at order i = slice_index_or order i 0

-- each node of the list leads to all later ones
abbrev pub Chain : List (List ℕ) → List ℕ → Type 0
Chain graph [] = Unit {0}
Chain graph (x ∷ xs) = AllByRecursion (Walk graph x) xs × Chain graph xs

-- if an edge leads from a node to a later one in the order, the later one leads to all nodes
-- between them
abbrev pub Nested : List (List ℕ) → List ℕ → Type 0
Nested graph order = (a b c : ℕ) → a ≤ c → c ≤ b → b < length order
    → Edge graph (node_at order a) (node_at order b) →
    Walk graph (node_at order b) (node_at order c)

-- each successor of the node was seen, or is still to be looked at
abbrev pub SeesEdges : List (List ℕ) → List Bool → ℕ × List ℕ → Type 0
SeesEdges graph seen f = (k : ℕ) → Edge graph f.0 k → Marked seen k ⊎ Contains f.1 k

-- The invariant of the search, apart from `looked`: `seen` marks the nodes that are on the stack of
-- `frames` or finished in `order`.
pub record IsBegun (graph : List (List ℕ)) (seen : List Bool) (frames : List (ℕ × List ℕ))
    (order : List ℕ) : Type 0 where
  pub size : length seen ≡ length graph
  pub listed : (k : ℕ) → Marked seen k → Contains order k ⊎ Contains (nodes_of frames) k
  pub entered : (k : ℕ) → Contains (nodes_of frames) k → Marked seen k
  pub finished : (k : ℕ) → Contains order k → Marked seen k
  pub closed : (j k : ℕ) → Contains order j → Edge graph j k → Marked seen k
  pub edges : AllByRecursion (λ f. (k : ℕ) → Contains f.1 k → Edge graph f.0 k) frames
  pub chain : Chain graph (nodes_of frames)
  -- if a finished node has an edge to a node on the stack, that one leads to it and to all that
  -- were finished later
  pub pending : (a c k : ℕ) → a ≤ c → c < length order → Edge graph (node_at order a) k
      → Contains (nodes_of frames) k →
      Walk graph k (node_at order c)
  pub nested : Nested graph order

pub record IsSearch (graph : List (List ℕ)) (seen : List Bool) (frames : List (ℕ × List ℕ))
    (order : List ℕ) : Type 0 where
  pub begun : IsBegun graph seen frames order
  pub looked : AllByRecursion (SeesEdges graph seen) frames

-- an upper bound on the remaining steps
abbrev pub frame_cost : ℕ × List ℕ → ℕ
frame_cost f = 1 + length f.1

abbrev pub cost : List (List ℕ) → List Bool → List (ℕ × List ℕ) → ℕ
cost graph seen frames =
    sum_by unmarked_one seen * (sum_by length graph + 2) + sum_by frame_cost frames

-- An order of all nodes, as the search finishes them.
pub record IsFinished (graph : List (List ℕ)) (order : List ℕ) : Type 0 where
  pub all : (k : ℕ) → k < length graph → Contains order k
  pub inside : (k : ℕ) → Contains order k → k < length graph
  pub nested : Nested graph order
