-- The steps of the search keep its invariant and decrease its cost.
use Rattle.std.proofs.Common.{◌≡◌, ℕ, zero, suc, ◌+◌, ◌*◌, ◌<◌, ◌≤◌, List, [], ◌∷◌, ◌++◌, Bool, true, false, length, get_or, set, refl, sym}
use Rattle.std.proofs.Common.{subst, ap, ◌∙◌, arith, ◌⊎◌, ⊎_elim, inl, inr, sum_by}
use Rattle.std.specs.List.{AllByRecursion}
use Rattle.std.specs.Prelude.{Contains}
use Rattle.std.proofs.lemmas.List.{length-set, map-append, get_or-set_other, get_or-set_same, get_or_past}
use Rattle.std.proofs.lemmas.List.Sums.{sum_by-set, sum_by-append, sum_by-cons}
use Rattle.std.proofs.Math.Nat.{suc-mul}
use Rattle.std.proofs.lemmas.List.Elements.{Contains-append_left, Contains-append_right, Contains-append_cases, Contains-get_or}
use Rattle.std.proofs.lemmas.Grind.{get_or-set_at}
use Rattle.std.proofs.lemmas.Bool.{cases_eq, cases_lt}
use Rattle.al_graph.specs.Graphs.{Edge, Walk, here, onward}
use Rattle.al_graph.specs.Private.Marks.{Marked, unmarked_one}
use Rattle.al_graph.proofs.Lists.{is_one, none_in, one_is}
use Rattle.al_graph.specs.Private.Finishing.{Chain, IsBegun, IsFinished, IsSearch, Nested, cost, frame_cost, SeesEdges, node_at, nodes_of}
use Rattle.al_graph.proofs.Orders.{all_at, all_front, all_last, all_more, all_weaker, at_before, at_end, chain_front, chain_last, chain_more, last_or_before}

module _ (graph : List (List ℕ)) where
  abbrev EdgesOf : ℕ × List ℕ → Type 0
  EdgesOf f = (k : ℕ) → Contains f.1 k → Edge graph f.0 k

  -- `nested` after one more node is finished
  nested_more : (order ns : List ℕ) (w : ℕ) → Nested graph order → Contains ns w →
      ((a c k : ℕ) → a ≤ c → c < length order → Edge graph (node_at order a) k → Contains ns k → Walk graph k (node_at order c)) →
      Nested graph (order ++ w ∷ [])
  nested_more order ns w nested there pending a b c ac cb lt edge =
      ⊎_elim before last (last_or_before order w b lt)
    where
      before : b < length order → Walk graph (node_at (order ++ w ∷ []) b) (node_at (order ++ w ∷ []) c)
      before h =
          let edge_before = rw (at_before order w a (omega (arith, ac, cb, h)), at_before order w b h) at edge in
          rw (at_before order w b h, at_before order w c (omega (arith, cb, h))) (nested a b c ac cb h edge_before)

      last : b ≡ length order → Walk graph (node_at (order ++ w ∷ []) b) (node_at (order ++ w ∷ []) c)
      last h =
          rw (at_end order w b h) (⊎_elim
          (λ below. rw (at_before order w c below)
          (pending a c w ac below (rw (at_before order w a (omega (arith, ac, below)), at_end order w b h) at edge) there))
          (λ past. rw (at_end order w c (omega (arith, past, cb, h))) here)
          (cases_lt c (length order)))

  -- `pending` after one more node is finished
  pending_more : (order ns : List ℕ) (w : ℕ) → AllByRecursion (λ x. Walk graph x w) ns →
      ((a c k : ℕ) → a ≤ c → c < length order → Edge graph (node_at order a) k → Contains (ns ++ w ∷ []) k → Walk graph k (node_at order c)) →
      (a c k : ℕ) → a ≤ c → c < length (order ++ w ∷ []) → Edge graph (node_at (order ++ w ∷ []) a) k → Contains ns k →
      Walk graph k (node_at (order ++ w ∷ []) c)
  pending_more order ns w leads pending a c k ac lt edge in_ns =
      ⊎_elim before last (last_or_before order w c lt)
    where
      before : c < length order → Walk graph k (node_at (order ++ w ∷ []) c)
      before h =
          rw (at_before order w c h) (pending a c k ac h (rw (at_before order w a (omega (arith, ac, h))) at edge) (Contains-append_left ns (w ∷ []) k in_ns))

      last : c ≡ length order → Walk graph k (node_at (order ++ w ∷ []) c)
      last h = rw (at_end order w c h) (all_at (λ x. Walk graph x w) ns k leads in_ns)

  -- finishing the node on top of the stack
  pub search_finish : (seen : List Bool) (frames : List (ℕ × List ℕ)) (order : List ℕ) (w : ℕ) →
      IsSearch graph seen (frames ++ (w, []) ∷ []) order → IsSearch graph seen frames (order ++ w ∷ [])
  search_finish seen frames order w s =
      let b = s.begun in
      let nodes : nodes_of (frames ++ (w, []) ∷ []) ≡ nodes_of frames ++ w ∷ [] = map-append (λ (f : ℕ × List ℕ). f.0) frames ((w, []) ∷ []) in
      let w_seen : Marked seen w = b.entered w (subst (λ (ns : List ℕ). Contains ns w) (sym nodes) (Contains-append_right (nodes_of frames) (w ∷ []) w (is_one w))) in
      let w_edges : (k : ℕ) → Edge graph w k → Marked seen k = λ k e.
      ⊎_elim (λ m. m) (λ c. absurd (none_in k c)) (all_last (SeesEdges graph seen) frames (w, []) s.looked k e) in
      let chain : Chain graph (nodes_of frames ++ w ∷ []) = subst (Chain graph) nodes b.chain in
      let leads : AllByRecursion (λ x. Walk graph x w) (nodes_of frames) = chain_last graph (nodes_of frames) w chain in
      let pending : (a c k : ℕ) → a ≤ c → c < length order → Edge graph (node_at order a) k → Contains (nodes_of frames ++ w ∷ []) k → Walk graph k (node_at order c) =
      λ a c k ac lt e in_ns. b.pending a c k ac lt e (subst (λ (ns : List ℕ). Contains ns k) (sym nodes) in_ns) in
      record {
        begun = record {
          size = b.size;
          listed = λ k m. ⊎_elim (λ c. inl (Contains-append_left order (w ∷ []) k c))
              (λ c. ⊎_elim (λ front. inr front) (λ last. inl (Contains-append_right order (w ∷ []) k last))
              (Contains-append_cases (nodes_of frames) (w ∷ []) k (subst (λ (ns : List ℕ). Contains ns k) nodes c)))
              (b.listed k m);
          entered = λ k c. b.entered k (subst (λ (ns : List ℕ). Contains ns k) (sym nodes) (Contains-append_left (nodes_of frames) (w ∷ []) k c));
          finished = λ k c. ⊎_elim (λ old. b.finished k old) (λ new. subst (Marked seen) (one_is w k new) w_seen) (Contains-append_cases order (w ∷ []) k c);
          closed = λ j k c e. ⊎_elim (λ old. b.closed j k old e)
              (λ new. let From : ℕ → Type 0 = λ n. Edge graph n k in w_edges k (subst From (sym (one_is w j new)) e))
              (Contains-append_cases order (w ∷ []) j c);
          edges = all_front EdgesOf frames ((w, []) ∷ []) b.edges;
          chain = chain_front graph (nodes_of frames) w chain;
          pending = pending_more order (nodes_of frames) w leads pending;
          nested = nested_more order (nodes_of frames ++ w ∷ []) w b.nested (Contains-append_right (nodes_of frames) (w ∷ []) w (is_one w)) pending;
        };
        looked = all_front (SeesEdges graph seen) frames ((w, []) ∷ []) s.looked;
      }

  -- membership in a nonempty list
  in_rest : (next k : ℕ) (rest : List ℕ) → Contains (next ∷ rest) k → (next ≡ k) ⊎ Contains rest k
  in_rest next k rest c = ⊎_elim (λ one. inl (one_is next k one)) (λ r. inr r) (Contains-append_cases (next ∷ []) rest k c)

  later : (next k : ℕ) (rest : List ℕ) → Contains rest k → Contains (next ∷ rest) k
  later next k rest c = let lt = c.1 in (suc c.0, omega (arith, lt), c.2)

  first : (next : ℕ) (rest : List ℕ) → Contains (next ∷ rest) next
  first next rest = (0, omega arith, refl)

  -- The next node is the target of an edge.
  pub edge_next : (seen : List Bool) (frames : List (ℕ × List ℕ)) (order rest : List ℕ) (w next : ℕ) →
      IsSearch graph seen (frames ++ (w, next ∷ rest) ∷ []) order → Edge graph w next
  edge_next seen frames order rest w next s = all_last EdgesOf frames (w, next ∷ rest) s.begun.edges next (first next rest)

  -- `begun` after the next edge is dropped
  begun_next : (seen : List Bool) (frames : List (ℕ × List ℕ)) (order rest : List ℕ) (w next : ℕ) →
      IsBegun graph seen (frames ++ (w, next ∷ rest) ∷ []) order → IsBegun graph seen (frames ++ (w, rest) ∷ []) order
  begun_next seen frames order rest w next b =
      let nodes : nodes_of (frames ++ (w, next ∷ rest) ∷ []) ≡ nodes_of (frames ++ (w, rest) ∷ []) =
      map-append (λ (f : ℕ × List ℕ). f.0) frames ((w, next ∷ rest) ∷ []) ∙ sym (map-append (λ (f : ℕ × List ℕ). f.0) frames ((w, rest) ∷ [])) in
      record {
        size = b.size;
        listed = λ k m. ⊎_elim (λ c. inl c) (λ c. inr (subst (λ (ns : List ℕ). Contains ns k) nodes c)) (b.listed k m);
        entered = λ k c. b.entered k (subst (λ (ns : List ℕ). Contains ns k) (sym nodes) c);
        finished = b.finished;
        closed = b.closed;
        edges = all_more EdgesOf frames (w, rest) (all_front EdgesOf frames ((w, next ∷ rest) ∷ []) b.edges)
            (λ k c. all_last EdgesOf frames (w, next ∷ rest) b.edges k (later next k rest c));
        chain = subst (Chain graph) nodes b.chain;
        pending = λ a c k ac lt e in_ns. b.pending a c k ac lt e (subst (λ (ns : List ℕ). Contains ns k) (sym nodes) in_ns);
        nested = b.nested;
      }

  looked_next : (seen after : List Bool) (frames : List (ℕ × List ℕ)) (rest : List ℕ) (w next : ℕ) →
      ((k : ℕ) → Marked seen k → Marked after k) → Marked after next →
      AllByRecursion (SeesEdges graph seen) (frames ++ (w, next ∷ rest) ∷ []) → AllByRecursion (SeesEdges graph after) (frames ++ (w, rest) ∷ [])
  looked_next seen after frames rest w next kept now h =
      all_more (SeesEdges graph after) frames (w, rest)
      (all_weaker (SeesEdges graph seen) (SeesEdges graph after) (λ f l k e. ⊎_elim (λ m. inl (kept k m)) (λ c. inr c) (l k e)) frames
      (all_front (SeesEdges graph seen) frames ((w, next ∷ rest) ∷ []) h))
      (λ k e. ⊎_elim (λ m. inl (kept k m)) (λ c. ⊎_elim (λ same. inl (subst (Marked after) same now)) (λ l. inr l) (in_rest next k rest c))
      (all_last (SeesEdges graph seen) frames (w, next ∷ rest) h k e))

  -- an edge to a node that was seen before
  pub search_pass : (seen : List Bool) (frames : List (ℕ × List ℕ)) (order rest : List ℕ) (w next : ℕ) → Marked seen next →
      IsSearch graph seen (frames ++ (w, next ∷ rest) ∷ []) order → IsSearch graph seen (frames ++ (w, rest) ∷ []) order
  search_pass seen frames order rest w next m s = record {
    begun = begun_next seen frames order rest w next s.begun;
    looked = looked_next seen seen frames rest w next (λ k h. h) m s.looked;
  }

  marked_set : (seen : List Bool) (j k : ℕ) → Marked (set seen j true) k → Marked seen k ⊎ (j ≡ k)
  marked_set seen j k m = ⊎_elim (λ e. inr (sym e)) (λ ne. inl (sym (get_or-set_other seen j k true false ne) ∙ m)) (cases_eq k j)

  pub still_seen : (seen : List Bool) (j k : ℕ) → j < length seen → Marked seen k → Marked (set seen j true) k
  still_seen seen j k h m = ⊎_elim (λ e. get_or-set_at seen j k true false e h) (λ ne. get_or-set_other seen j k true false ne ∙ m) (cases_eq k j)

  unseen : (seen : List Bool) (k : ℕ) → get_or seen k false ≡ false → Marked seen k → ⊥
  unseen seen k f m = cc (f, m)

  -- Entering a node that wasn't seen, to which all nodes on the stack lead.
  pub search_enter : (seen : List Bool) (frames : List (ℕ × List ℕ)) (order : List ℕ) (w : ℕ) → w < length graph →
      get_or seen w false ≡ false → AllByRecursion (λ x. Walk graph x w) (nodes_of frames) → IsBegun graph seen frames order →
      AllByRecursion (SeesEdges graph (set seen w true)) frames →
      IsSearch graph (set seen w true) (frames ++ (w, get_or graph w []) ∷ []) order
  search_enter seen frames order w lt fresh leads b looked =
      let nodes : nodes_of (frames ++ (w, get_or graph w []) ∷ []) ≡ nodes_of frames ++ w ∷ [] = map-append (λ (f : ℕ × List ℕ). f.0) frames ((w, get_or graph w []) ∷ []) in
      let inside : w < length seen = (let n = b.size in omega (arith, n, lt)) in
      let w_seen : Marked (set seen w true) w = get_or-set_same seen w true false inside in
      record {
        begun = record {
          size = length-set seen w true ∙ b.size;
          listed = λ k m. ⊎_elim
              (λ old. ⊎_elim (λ c. inl c) (λ c. inr (subst (λ (ns : List ℕ). Contains ns k) (sym nodes) (Contains-append_left (nodes_of frames) (w ∷ []) k c))) (b.listed k old))
              (λ same. inr (subst (λ (ns : List ℕ). Contains ns k) (sym nodes) (Contains-append_right (nodes_of frames) (w ∷ []) k (subst (Contains (w ∷ [])) same (is_one w)))))
              (marked_set seen w k m);
          entered = λ k c. ⊎_elim (λ old. still_seen seen w k inside (b.entered k old)) (λ new. subst (Marked (set seen w true)) (one_is w k new) w_seen)
              (Contains-append_cases (nodes_of frames) (w ∷ []) k (subst (λ (ns : List ℕ). Contains ns k) nodes c));
          finished = λ k c. still_seen seen w k inside (b.finished k c);
          closed = λ j k c e. still_seen seen w k inside (b.closed j k c e);
          edges = all_more EdgesOf frames (w, get_or graph w []) b.edges (λ k c. c);
          chain = subst (Chain graph) (sym nodes) (chain_more graph (nodes_of frames) w b.chain leads);
          pending = λ a c k ac l e in_ns. ⊎_elim (λ old. b.pending a c k ac l e old)
              (λ new. absurd (unseen seen w fresh (let To : ℕ → Type 0 = λ n. Edge graph (node_at order a) n in
              b.closed (node_at order a) w (Contains-get_or order a 0 (omega (arith, ac, l))) (subst To (sym (one_is w k new)) e))))
              (Contains-append_cases (nodes_of frames) (w ∷ []) k (subst (λ (ns : List ℕ). Contains ns k) nodes in_ns));
          nested = b.nested;
        };
        looked = all_more (SeesEdges graph (set seen w true)) frames (w, get_or graph w []) looked (λ k e. inr e);
      }

  -- an edge to a node that wasn't seen before
  pub search_go_in : (seen : List Bool) (frames : List (ℕ × List ℕ)) (order rest : List ℕ) (w next : ℕ) → next < length graph →
      get_or seen next false ≡ false → IsSearch graph seen (frames ++ (w, next ∷ rest) ∷ []) order →
      IsSearch graph (set seen next true) ((frames ++ (w, rest) ∷ []) ++ (next, get_or graph next []) ∷ []) order
  search_go_in seen frames order rest w next lt fresh s =
      let inside : next < length seen = (let n = s.begun.size in omega (arith, n, lt)) in
      let b : IsBegun graph seen (frames ++ (w, rest) ∷ []) order = begun_next seen frames order rest w next s.begun in
      let nodes : nodes_of (frames ++ (w, rest) ∷ []) ≡ nodes_of frames ++ w ∷ [] = map-append (λ (f : ℕ × List ℕ). f.0) frames ((w, rest) ∷ []) in
      let chain : Chain graph (nodes_of frames ++ w ∷ []) = subst (Chain graph) nodes b.chain in
      let edge : Edge graph w next = edge_next seen frames order rest w next s in
      let leads : AllByRecursion (λ x. Walk graph x next) (nodes_of frames ++ w ∷ []) =
      all_more (λ x. Walk graph x next) (nodes_of frames) w
      (all_weaker (λ x. Walk graph x w) (λ x. Walk graph x next) (λ x v. onward w next v edge) (nodes_of frames) (chain_last graph (nodes_of frames) w chain))
      (onward w next here edge) in
      search_enter seen (frames ++ (w, rest) ∷ []) order next lt fresh (subst (AllByRecursion (λ x. Walk graph x next)) (sym nodes) leads) b
      (looked_next seen (set seen next true) frames rest w next (λ k m. still_seen seen next k inside m) (get_or-set_same seen next true false inside) s.looked)

  -- entering a node while the stack is empty
  pub search_start : (seen : List Bool) (order : List ℕ) (w : ℕ) → w < length graph → get_or seen w false ≡ false →
      IsSearch graph seen [] order → IsSearch graph (set seen w true) ((w, get_or graph w []) ∷ []) order
  search_start seen order w lt fresh s = search_enter seen [] order w lt fresh tt s.begun tt

-- ---- the cost decreases with each step

one_of_sum : (graph : List (List ℕ)) (i : ℕ) → length (get_or graph i []) ≤ sum_by length graph
one_of_sum [] i = omega arith
one_of_sum (x ∷ xs) zero = let here : length (get_or {A = List ℕ} (x ∷ xs) 0 []) ≡ length x = refl in omega (arith, sum_by-cons length x xs, here)
one_of_sum (x ∷ xs) (suc i) =
    let there : length (get_or {A = List ℕ} (x ∷ xs) (suc i) []) ≡ length (get_or xs i []) = refl in
    omega (arith, sum_by-cons length x xs, there, one_of_sum xs i)

abbrev K : List (List ℕ) → ℕ
K graph = sum_by length graph + 2

pub cost_enter : (graph : List (List ℕ)) (seen : List Bool) (frames : List (ℕ × List ℕ)) (w next : ℕ) (rest : List ℕ) → next < length seen →
    get_or seen next false ≡ false →
    cost graph (set seen next true) ((frames ++ (w, rest) ∷ []) ++ (next, get_or graph next []) ∷ []) < cost graph seen (frames ++ (w, next ∷ rest) ∷ [])
cost_enter graph seen frames w next rest lt fresh =
    let u : ℕ = sum_by unmarked_one (set seen next true) in
    let was : unmarked_one (get_or seen next false) ≡ 1 = ap unmarked_one fresh in
    let one : sum_by unmarked_one seen ≡ suc u = (let s = sum_by-set unmarked_one seen next true false lt in omega (arith, s, was)) in
    let times : sum_by unmarked_one seen * K graph ≡ u * K graph + K graph = ap (λ n. n * K graph) one ∙ suc-mul u (K graph) in
    let a = sum_by-append frame_cost (frames ++ (w, rest) ∷ []) ((next, get_or graph next []) ∷ []) in
    let b = sum_by-append frame_cost frames ((w, rest) ∷ []) in
    let c = sum_by-append frame_cost frames ((w, next ∷ rest) ∷ []) in
    let d = one_of_sum graph next in
    omega (arith, times, a, b, c, d)

-- ---- the steps, given the values that the code computes

-- The next node is in the graph, and has a mark.
pub step_inside : (graph : List (List ℕ)) (seen : List Bool) (frames : List (ℕ × List ℕ)) (order : List ℕ) (w next bound : ℕ) (rest : List ℕ) →
    length graph ≡ bound → ((j k : ℕ) → Edge graph j k → k < bound) → IsSearch graph seen (frames ++ (w, next ∷ rest) ∷ []) order →
    (next < length graph) × (next < length seen)
step_inside graph seen frames order w next bound rest size edges_in s =
    let below : next < bound = edges_in w next (edge_next graph seen frames order rest w next s) in
    let marks : length seen ≡ length graph = s.begun.size in
    (omega (arith, below, size), omega (arith, below, size, marks))

pub step_enter : (graph : List (List ℕ)) (seen now : List Bool) (frames mid after : List (ℕ × List ℕ)) (order : List ℕ) (w next : ℕ) (rest : List ℕ) →
    mid ≡ frames ++ (w, rest) ∷ [] → next < length graph → get_or seen next false ≡ false → now ≡ set seen next true →
    after ≡ mid ++ (next, get_or graph next []) ∷ [] → IsSearch graph seen (frames ++ (w, next ∷ rest) ∷ []) order →
    IsSearch graph now after order × (cost graph now after < cost graph seen (frames ++ (w, next ∷ rest) ∷ [])) × ((k : ℕ) → Marked seen k → Marked now k)
step_enter graph seen now frames mid after order w next rest m lt fresh n a s =
    let inside : next < length seen = (let size = s.begun.size in omega (arith, size, lt)) in (
      rw (n, a, m) (search_go_in graph seen frames order rest w next lt fresh s),
      rw (n, a, m) (cost_enter graph seen frames w next rest inside fresh),
      rw n (λ k h. still_seen graph seen next k inside h),
    )

pub step_start : (graph : List (List ℕ)) (seen now : List Bool) (none after : List (ℕ × List ℕ)) (order : List ℕ) (w : ℕ) → w < length graph →
    get_or seen w false ≡ false → now ≡ set seen w true → none ≡ [] → after ≡ none ++ (w, get_or graph w []) ∷ [] → IsSearch graph seen [] order →
    IsSearch graph now after order × ((k : ℕ) → Marked seen k → Marked now k) × Marked now w
step_start graph seen now none after order w lt fresh n e a s =
    let inside : w < length seen = (let size = s.begun.size in omega (arith, size, lt)) in (
      rw (n, a, e) (search_start graph seen order w lt fresh s),
      rw n (λ k h. still_seen graph seen w k inside h),
      rw n (get_or-set_same seen w true false inside),
    )

-- When all nodes were seen, the order is finished.
pub search_done : (graph : List (List ℕ)) (seen : List Bool) (order : List ℕ) (n : ℕ) → n ≡ length graph → ((k : ℕ) → k < n → Marked seen k) →
    IsSearch graph seen [] order → IsFinished graph order
search_done graph seen order n e all s = record {
  all = λ k lt. ⊎_elim (λ c. c) (λ c. absurd (none_in k c)) (s.begun.listed k (all k (omega (arith, lt, e))));
  inside = λ k c. inside_of k (s.begun.finished k c);
  nested = s.begun.nested;
}
  where
    inside_of : (k : ℕ) → Marked seen k → k < length graph
    inside_of k m = ⊎_elim (λ h. let size = s.begun.size in omega (arith, h, size)) (λ h. absurd (cc (get_or_past seen k false h, m))) (cases_lt k (length seen))
