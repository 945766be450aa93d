-- The edges from a node, in the code's view of a graph.
use Rattle.std.proofs.Common.{◌≡◌, ℕ, ◌<◌, List, [], get_or, length, Vec, subst, sym, ap, ◌∙◌}
use Rattle.std.specs.declared.alloc.Global.{Global}
use Rattle.std.proofs.lemmas.List.{get_or-map}
use Rattle.std.specs.Prelude.{Contains}
use Rattle.std.proofs.lemmas.List.Elements.{Contains-get_or}
use Rattle.al_graph.specs.Graphs.{Edge, edges_of}

pub edges_at : (graph : List (Vec ℕ Global)) (j : ℕ) (v : Vec ℕ Global) → j < length graph → v ≡ get_or graph j v → get_or (edges_of graph) j [] ≡ v.items
edges_at graph j v h e = get_or-map (λ (w : Vec ℕ Global). w.items) graph j v [] h ∙ ap (λ (x : Vec ℕ Global). x.items) (sym e)

-- An edge of a graph leads to one of its nodes; `nodes` are those that the edges from node j lead to.
pub edge_inside : (graph : List (Vec ℕ Global)) → ((j k : ℕ) → Edge (edges_of graph) j k → k < length graph) → (j i : ℕ) (v : Vec ℕ Global) (nodes : List ℕ)
    → j < length graph → v ≡ get_or graph j v → nodes ≡ v.items → i < length nodes → get_or nodes i 0 < length graph
edge_inside graph inside j i v nodes within read same short =
    inside j (get_or nodes i 0) (subst (λ l. Contains l (get_or nodes i 0)) (same ∙ sym (edges_at graph j v within read)) (Contains-get_or nodes i 0 short))
