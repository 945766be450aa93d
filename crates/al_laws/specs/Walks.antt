-- The bound on walks through a graph, as a law.
use Rattle.std.specs.Prelude.{◌≡◌, ◌<◌, ℕ, List, length}
use Rattle.al_graph.specs.Within.{leads, leads_within}

-- Walks of at most so many edges, more than there are nodes, lead where `leads` says.
abbrev pub LongerWalksLeadNowhereElse : Type 0
LongerWalksLeadNowhereElse = (most : ℕ) (graph : List (List ℕ)) (j k : ℕ) → length graph < most
    → leads_within most graph j k ≡ leads graph j k
