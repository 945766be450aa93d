-- Adding edges one after another, and transposing a graph.
use Rattle.std.proofs.Common.{◌≡◌, ℕ, ◌+◌, ◌<◌, List, [], ◌∷◌, ◌++◌, Vec, get_or, length, refl, subst, sym, ap, ◌∙◌, arith, set, take, ◌⊎◌, ⊎_elim, inl, inr}
use Rattle.std.specs.declared.alloc.Global.{Global}
use Rattle.std.specs.Prelude.{Contains}
use Rattle.std.proofs.lemmas.List.{get_or-set_other, get_or_past, length-map, map-set, take_more}
use Rattle.std.proofs.lemmas.List.Elements.{Contains-append_left, Contains-append_right, Contains-append_cases}
use Rattle.std.proofs.lemmas.Grind.{get_or-set_at}
use Rattle.std.proofs.lemmas.Bool.{cases_eq, cases_lt}
use Rattle.al_graph.specs.Graphs.{Edge, IsTranspose, Walk, edges_of, here, onward}
use Rattle.al_graph.proofs.Lists.{is_one, none_in, one_is}
use Rattle.al_graph.proofs.Edges.{edges_at}
use Rattle.al_graph.proofs.Orders.{both_walks}

abbrev In : ℕ → List ℕ → Type 0
In k ns = Contains ns k

-- edges from some nodes to one were added
pub record AddsEdges (nodes : List ℕ) (to : ℕ) (old new : List (List ℕ)) : Type 0 where
  pub kept : (j k : ℕ) → Edge old j k → Edge new j k
  pub all : (j : ℕ) → Contains nodes j → Edge new j to
  pub only : (j k : ℕ) → Edge new j k → Edge old j k ⊎ (Contains nodes j × (k ≡ to))

-- adding one edge
pub edge_added : (old new : List (List ℕ)) (from to : ℕ) → from < length old → new ≡ set old from (get_or old from [] ++ to ∷ []) → AddsEdges (from ∷ []) to old new
edge_added old new from to lt e =
    let full : get_or new from [] ≡ get_or old from [] ++ to ∷ [] = ap (λ g. get_or g from []) e ∙ get_or-set_at old from from (get_or old from [] ++ to ∷ []) [] refl lt in
    let off : (j : ℕ) → (j ≡ from → ⊥) → get_or new j [] ≡ get_or old j [] = λ j ne. ap (λ g. get_or g j []) e ∙ get_or-set_other old from j (get_or old from [] ++ to ∷ []) [] ne in
    record {
      kept = λ j k c. ⊎_elim
          (λ same. rw same (rw full (Contains-append_left (get_or old from []) (to ∷ []) k (rw same at c))))
          (λ ne. rw (off j ne) c) (cases_eq j from);
      all = λ j c. rw (sym (one_is from j c)) (rw full (Contains-append_right (get_or old from []) (to ∷ []) to (is_one to)));
      only = λ j k c. ⊎_elim
          (λ same. ⊎_elim (λ was. inl (rw same was)) (λ one. inr (rw same (is_one from), sym (one_is to k one)))
          (Contains-append_cases (get_or old from []) (to ∷ []) k (rw full at (rw same at c))))
          (λ ne. inl (rw (off j ne) at c)) (cases_eq j from);
    }

-- the same in the code's view, by a push to the node's list
pub edge_pushed : (graph : List (Vec ℕ Global)) (from to : ℕ) (old new : Vec ℕ Global) → from < length graph → old ≡ get_or graph from old → new.items ≡ old.items ++ to ∷ []
    → AddsEdges (from ∷ []) to (edges_of graph) (edges_of (set graph from new))
edge_pushed graph from to old new lt is e =
    let len : length (edges_of graph) ≡ length graph = length-map graph _ in
    let inside : from < length (edges_of graph) = omega (arith, len, lt) in
    edge_added (edges_of graph) (edges_of (set graph from new)) from to inside
    (map-set (λ (v : Vec ℕ Global). v.items) graph from new ∙ ap (λ l. set (edges_of graph) from l) (e ∙ ap (λ l. l ++ to ∷ []) (sym (edges_at graph from old lt is))))

edges_more : (xs ys : List ℕ) (to : ℕ) (a b c : List (List ℕ)) → AddsEdges xs to a b → AddsEdges ys to b c → AddsEdges (xs ++ ys) to a c
edges_more xs ys to a b c one two = record {
  kept = λ j k e. two.kept j k (one.kept j k e);
  all = λ j h. ⊎_elim (λ l. two.kept j to (one.all j l)) (λ r. two.all j r) (Contains-append_cases xs ys j h);
  only = λ j k e. ⊎_elim (λ f. ⊎_elim (λ o. inl o) (λ l. inr (Contains-append_left xs ys j l.0, l.1)) (one.only j k f)) (λ r. inr (Contains-append_right xs ys j r.0, r.1)) (two.only j k e);
}

pub edges_next : (nodes : List ℕ) (i to : ℕ) (a b c : List (List ℕ)) → i < length nodes → AddsEdges (take i nodes) to a b
    → AddsEdges (get_or nodes i 0 ∷ []) to b c → AddsEdges (take (i + 1) nodes) to a c
edges_next nodes i to a b c lt one two =
    subst (λ (ns : List ℕ). AddsEdges ns to a c) (sym (take_more nodes i 0 lt)) (edges_more (take i nodes) (get_or nodes i 0 ∷ []) to a b c one two)

-- `other` has the reversed edges of the first i nodes, and no more
pub record TurnedTo (i : ℕ) (graph other : List (List ℕ)) : Type 0 where
  pub all : (j k : ℕ) → j < i → Edge graph j k → Edge other k j
  pub only : (j k : ℕ) → Edge other k j → (j < i) × Edge graph j k

pub turned_next : (graph a b : List (List ℕ)) (i : ℕ) (nodes : List ℕ) → nodes ≡ get_or graph i [] → TurnedTo i graph a → AddsEdges nodes i a b → TurnedTo (i + 1) graph b
turned_next graph a b i nodes is t m = record {
  all = λ j k lt e. ⊎_elim
      (λ below. m.kept k j (t.all j k below e))
      (λ above. let same : j ≡ i = omega (arith, lt, above) in rw same (m.all k (rw is (rw same at e))))
      (cases_lt j i);
  only = λ j k e. ⊎_elim
      (λ old. let was = t.only j k old in (let below : j < i = was.0 in omega (arith, below), was.1))
      (λ new. let same : j ≡ i = new.1 in (omega (arith, same), rw (same, sym is) new.0))
      (m.only k j e);
}

pub turned_all : (graph other : List (List ℕ)) → TurnedTo (length graph) graph other → IsTranspose graph other
turned_all graph other t j k =
    (λ e. ⊎_elim (λ lt. t.all j k lt e) (λ past. absurd (none_in k (subst (In k) (get_or_past graph j [] past) e))) (cases_lt j (length graph)), λ e. (t.only j k e).1)

pub turned_end : (graph : List (Vec ℕ Global)) (other : List (List ℕ)) (i : ℕ) → i ≡ length graph → TurnedTo i (edges_of graph) other → IsTranspose (edges_of graph) other
turned_end graph other i e t =
    let len : length (edges_of graph) ≡ length graph = length-map graph _ in
    turned_all (edges_of graph) other (rw (len, sym e) t)

-- A walk, reversed.
pub turned_walk : (graph other : List (List ℕ)) → ((j k : ℕ) → Edge graph j k → Edge other k j) → (j k : ℕ) → Walk graph j k → Walk other k j
turned_walk graph other t j _ here = here
turned_walk graph other t j _ (onward l m w e) = both_walks other m l j (onward m l here (t l m e)) (turned_walk graph other t j l w)
