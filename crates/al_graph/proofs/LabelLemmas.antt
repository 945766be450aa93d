-- The steps of labelling, and why equal labels mean one strongly connected component in the end.
use Rattle.std.proofs.Common.{◌≡◌, ℕ, ◌+◌, ◌<◌, ◌≤◌, List, [], ◌∷◌, ◌++◌, length, get_or, replicate, set, take, refl, sym, subst}
use Rattle.std.proofs.Common.{ap, ◌∙◌, arith, ⊎_elim, inl, inr, length-append, Option, Some, None, true, false, is_none, is_some}
use Rattle.std.specs.Prelude.{Contains, ◌↔◌}
use Rattle.std.specs.Option.{unwrap_or}
use Rattle.std.proofs.lemmas.List.{length-replicate, length-set, get_or-replicate, get_or_default, get_or-set_other, get_or-set_same, take_more, get_or_past}
use Rattle.std.proofs.lemmas.List.Elements.{Contains-append_left, Contains-append_right, Contains-append_cases, Contains-get_or}
use Rattle.std.proofs.lemmas.List.Sums.{sum_by-set}
use Rattle.std.proofs.lemmas.Bool.{cases_eq, cases_lt}
use Rattle.al_graph.specs.Graphs.{Edge, IsTranspose, StronglyConnected, Walk, here, onward}
use Rattle.al_graph.proofs.Lists.{is_one, none_in, one_is}
use Rattle.al_graph.proofs.TurnLemmas.{turned_walk}
use Rattle.al_graph.specs.Private.Finishing.{IsFinished, node_at}
use Rattle.al_graph.specs.Private.Labelling.{IsBackward, IsLabelling, Labels, LeadsUp, free_one, label_at}
use Rattle.al_graph.proofs.Orders.{both_walks}

some_is : (a b : ℕ) → Some a ≡ Some b → a ≡ b
some_is a b e = ap (λ o. unwrap_or o a) e

not_both : (l : ℕ) (o : Option ℕ) → o ≡ None → o ≡ Some l → ⊥
not_both l o n s = cc (n, s)

pub labels_again : (label : ℕ) (labels : List (Option ℕ)) (j l : ℕ) (found : List ℕ) → label_at labels j ≡ Some l → Labels (j ∷ []) label labels labels found found
labels_again label labels j l found was = record {
  size = refl;
  all = λ k h. (l, subst (λ n. label_at labels n ≡ Some l) (one_is j k h) was);
  kept = λ k m e. e;
  only = λ k m e. inl e;
  listed = λ k m e. inl e;
  list_kept = λ k h. h;
  list_only = λ k h. inl h;
  count = refl;
}

pub labels_first : (label : ℕ) (labels : List (Option ℕ)) (j : ℕ) (found : List ℕ) → j < length labels → label_at labels j ≡ None →
    Labels (j ∷ []) label labels (set labels j (Some label)) found (found ++ j ∷ [])
labels_first label labels j found h e =
    let was : free_one (get_or labels j None) ≡ 1 = ap free_one e in
    let new : label_at (set labels j (Some label)) j ≡ Some label = get_or-set_same labels j (Some label) None h in
    let off : (k : ℕ) → (k ≡ j → ⊥) → label_at (set labels j (Some label)) k ≡ label_at labels k = λ k ne. get_or-set_other labels j k (Some label) None ne in
    record {
      size = length-set labels j (Some label);
      all = λ k c. (label, subst (λ n. label_at (set labels j (Some label)) n ≡ Some label) (one_is j k c) new);
      kept = λ k l s. ⊎_elim (λ same. absurd (not_both l (label_at labels j) e (subst (λ n. label_at labels n ≡ Some l) same s))) (λ ne. off k ne ∙ s) (cases_eq k j);
      only = λ k l s. ⊎_elim
          (λ same. inr (rw same (is_one j), some_is l label (sym (rw same at s) ∙ new), rw same e))
          (λ ne. inl (sym (off k ne) ∙ s)) (cases_eq k j);
      listed = λ k l s. ⊎_elim (λ same. inr (rw same (Contains-append_right found (j ∷ []) j (is_one j)))) (λ ne. inl (sym (off k ne) ∙ s)) (cases_eq k j);
      list_kept = λ k c. Contains-append_left found (j ∷ []) k c;
      list_only = λ k c. ⊎_elim (λ old. inl old) (λ one. inr (subst (λ n. label_at (set labels j (Some label)) n ≡ Some label) (one_is j k one) new)) (Contains-append_cases found (j ∷ []) k c);
      count = (let s = sum_by-set free_one labels j (Some label) None h in omega (arith, s, was, length-append found (j ∷ [])));
    }

-- labelling some nodes and then others
pub labels_more : (xs ys : List ℕ) (label : ℕ) (a b c : List (Option ℕ)) (f g h : List ℕ) → Labels xs label a b f g → Labels ys label b c g h → Labels (xs ++ ys) label a c f h
labels_more xs ys label a b c f g h one two = record {
  size = two.size ∙ one.size;
  all = λ k m. ⊎_elim (λ l. let x = one.all k l in (x.0, two.kept k x.0 x.1)) (λ r. two.all k r) (Contains-append_cases xs ys k m);
  kept = λ k l e. two.kept k l (one.kept k l e);
  only = λ k l e. ⊎_elim
      (λ mid. ⊎_elim (λ o. inl o) (λ n. inr (Contains-append_left xs ys k n.0, n.1, n.2)) (one.only k l mid))
      (λ n. inr (Contains-append_right xs ys k n.0, n.1, free_before k n.2)) (two.only k l e);
  listed = λ k l e. ⊎_elim (λ mid. ⊎_elim (λ o. inl o) (λ c. inr (two.list_kept k c)) (one.listed k l mid)) (λ c. inr c) (two.listed k l e);
  list_kept = λ k m. two.list_kept k (one.list_kept k m);
  list_only = λ k m. ⊎_elim (λ n. ⊎_elim (λ o. inl o) (λ l. inr (two.kept k label l)) (one.list_only k n)) (λ r. inr r) (two.list_only k m);
  count = omega (arith, one.count, two.count);
}
  where
    free_before : (k : ℕ) → label_at b k ≡ None → label_at a k ≡ None
    free_before k none = by (label_at a k) refl
      where
        by : (o : Option ℕ) → label_at a k ≡ o → label_at a k ≡ None
        by None e = e
        by (Some l) e = absurd (not_both l (label_at b k) none (one.kept k l e))

-- labelling one more node of a list
pub labels_next : (nodes : List ℕ) (i label : ℕ) (a b c : List (Option ℕ)) (f g h : List ℕ) → i < length nodes → Labels (take i nodes) label a b f g →
    Labels (get_or nodes i 0 ∷ []) label b c g h → Labels (take (i + 1) nodes) label a c f h
labels_next nodes i label a b c f g h lt one two =
    subst (λ (ns : List ℕ). Labels ns label a c f h) (sym (take_more nodes i 0 lt)) (labels_more (take i nodes) (get_or nodes i 0 ∷ []) label a b c f g h one two)

module _ (graph : List (List ℕ)) (order : List ℕ) where
  -- case analysis: a label is an old one, or the new one on a node that had none
  by_only : (nodes : List ℕ) (label : ℕ) (old new : List (Option ℕ)) (before after : List ℕ) → Labels nodes label old new before after →
      (P : ℕ → ℕ → Type 0) → ((k l : ℕ) → label_at old k ≡ Some l → P k l) → ((k : ℕ) → Contains nodes k → label_at old k ≡ None → P k label) →
      (k l : ℕ) → label_at new k ≡ Some l → P k l
  by_only nodes label old new before after m P f g k l e = ⊎_elim (λ o. f k l o) (λ n. subst (P k) (sym n.1) (g k n.0 n.2)) (m.only k l e)

  pub labelling_start : (labels new : List (Option ℕ)) (at r : ℕ) (none found : List ℕ) → at < length order → r ≡ node_at order at → none ≡ [] →
      IsLabelling graph order labels (at + 1) [] → Labels (r ∷ []) at labels new none found → IsLabelling graph order new at found
  labelling_start labels new at r none found lt is e s m =
      let only = by_only (r ∷ []) at labels new none found m in
      record {
        size = m.size ∙ s.size;
        low = only (λ k l. at ≤ l) (λ k l o. let up : at + 1 ≤ l = s.low k l o in omega (arith, up)) (λ k c n. omega arith);
        high = only (λ k l. l < length order) s.high (λ k c n. lt);
        done = λ i low high. ⊎_elim
            (λ same. subst (λ n. (l : ℕ) × (label_at new (node_at order n) ≡ Some l)) (sym same) (subst (λ n. (l : ℕ) × (label_at new n ≡ Some l)) is (m.all r (is_one r))))
            (λ ne. let old = s.done i (omega (arith, low, ne)) high in (old.0, m.kept _ old.0 old.1)) (cases_eq i at);
        closed = λ j k l edge here_is. ⊎_elim
            (λ o. ⊎_elim (λ c. inl (c.0, m.kept k c.0 c.1, c.2)) (λ c. absurd (none_in j c)) (s.closed j k l edge o))
            (λ n. ⊎_elim (λ o. absurd (not_both l (label_at labels j) n.2 o)) (λ c. inr c) (m.listed j l here_is))
            (m.only j l here_is);
        opened = λ k c. ⊎_elim (λ old. absurd (none_in k (subst (λ (ns : List ℕ). Contains ns k) e old))) (λ n. n) (m.list_only k c);
        reached = only (λ k l. Walk graph (node_at order l) k) s.reached (λ k c n. subst (Walk graph (node_at order at)) (sym is ∙ one_is r k c) here);
        leads = only (LeadsUp graph order) s.leads
            (λ k c n. (
              at,
              omega arith,
              sym is ∙ one_is r k c,
              λ d up down. let same : d ≡ at = omega (arith, up, down) in
                  subst (λ x. Walk graph (node_at order x) (node_at order at)) (sym same) here,
            ));
      }

  -- A node without a label is at a position before `at`.
  earlier : (labels : List (Option ℕ)) (at : ℕ) (waiting : List ℕ) (k : ℕ) → IsBackward graph order → IsLabelling graph order labels at waiting →
      k < length graph → label_at labels k ≡ None → (b : ℕ) × (b < at) × (node_at order b ≡ k)
  earlier labels at waiting k back s lt none =
      let there = back.all k lt in
      let is : node_at order there.0 ≡ k = get_or_default order there.0 0 k there.1 ∙ there.2 in
      (there.0, ⊎_elim (λ h. h) (λ past. absurd (late there.0 past there.1 is)) (cases_lt there.0 at), is)
    where
      late : (b : ℕ) → at ≤ b → b < length order → node_at order b ≡ k → ⊥
      late b past inside is = let d = s.done b past inside in not_both d.0 (label_at labels k) none (subst (λ n. label_at labels n ≡ Some d.0) is d.1)

  -- `LeadsUp` holds for the successors of a node, if they are at positions before `at`.
  leads_next : (at j k b : ℕ) → IsBackward graph order → at < length order → b < at → node_at order b ≡ k → Edge graph j k → LeadsUp graph order j at → LeadsUp graph order k at
  leads_next at j k b back inside below is edge up =
      let bj : ℕ = up.0 in
      let low : bj ≤ at = up.1 in
      let at_j : node_at order bj ≡ j = up.2 in
      let places : Edge graph (node_at order bj) (node_at order b) = rw (at_j, is) edge in (
        b,
        omega (arith, below),
        is,
        λ c from to. ⊎_elim
            (λ before. both_walks graph (node_at order c) (node_at order bj) (node_at order at)
            (back.nested b bj c from (omega (arith, before)) (omega (arith, low, inside)) places) (up.3 bj (omega arith) low))
            (λ later. up.3 c later to) (cases_lt c bj),
      )

  pub labelling_next : (labels new : List (Option ℕ)) (at node : ℕ) (all rest found : List ℕ) → ((j k : ℕ) → Edge graph j k → k < length graph) → IsBackward graph order →
      at < length order → all ≡ rest ++ node ∷ [] → IsLabelling graph order labels at all → Labels (get_or graph node []) at labels new rest found →
      IsLabelling graph order new at found
  labelling_next labels new at node all rest found inside back lt e s m =
      let only = by_only (get_or graph node []) at labels new rest found m in
      let was : label_at labels node ≡ Some at = s.opened node (subst (λ (ns : List ℕ). Contains ns node) (sym e) (Contains-append_right rest (node ∷ []) node (is_one node))) in
      let low : (k l : ℕ) → label_at new k ≡ Some l → at ≤ l = only (λ k l. at ≤ l) s.low (λ k c n. omega arith) in
      record {
        size = m.size ∙ s.size;
        low = low;
        high = only (λ k l. l < length order) s.high (λ k c n. lt);
        done = λ i from to. let old = s.done i from to in (old.0, m.kept _ old.0 old.1);
        closed = λ j k l edge here_is. ⊎_elim
            (λ o. ⊎_elim (λ c. inl (c.0, m.kept k c.0 c.1, c.2))
            (λ w. ⊎_elim (λ c. inr (m.list_kept j c))
            (λ c. let same : node ≡ j = one_is node j c in
            let now = m.all k (rw same edge) in
            let up : at ≤ now.0 = low k now.0 now.1 in
            let l_is : l ≡ at = some_is l at (sym o ∙ subst (λ n. label_at labels n ≡ Some at) same was) in
            inl (now.0, now.1, omega (arith, up, l_is)))
            (Contains-append_cases rest (node ∷ []) j (subst (λ (ns : List ℕ). Contains ns j) e w)))
            (s.closed j k l edge o))
            (λ n. ⊎_elim (λ o. absurd (not_both l (label_at labels j) n.2 o)) (λ c. inr c) (m.listed j l here_is))
            (m.only j l here_is);
        opened = λ k c. ⊎_elim (λ old. m.kept k at (s.opened k (subst (λ (ns : List ℕ). Contains ns k) (sym e) (Contains-append_left rest (node ∷ []) k old)))) (λ n. n) (m.list_only k c);
        reached = only (λ k l. Walk graph (node_at order l) k) s.reached (λ k c n. onward node k (s.reached node at was) c);
        leads = only (LeadsUp graph order) s.leads (λ k c n. let b = earlier labels at all k back s (inside node k c) n in leads_next at node k b.0 back lt b.1 b.2 c (s.leads node at was));
      }

  -- Labels don't decrease along a walk.
  along : (labels : List (Option ℕ)) (at : ℕ) → IsLabelling graph order labels at [] → (j l : ℕ) → label_at labels j ≡ Some l → (k : ℕ) → Walk graph j k →
      (m : ℕ) × (label_at labels k ≡ Some m) × (l ≤ m)
  along labels at s j l e _ here = (l, e, omega arith)
  along labels at s j l e _ (onward a b w edge) =
      let mid = along labels at s j l e a w in
      ⊎_elim (λ c. let one = mid.2 in let two = c.2 in (c.0, c.1, omega (arith, one, two))) (λ c. absurd (none_in a c)) (s.closed a b mid.0 edge mid.1)

  -- In the end each node has a label.
  pub labelled : (labels : List (Option ℕ)) → IsBackward graph order → IsLabelling graph order labels 0 [] → (k : ℕ) → k < length graph → (l : ℕ) × (label_at labels k ≡ Some l)
  labelled labels back s k lt = by (label_at labels k) refl
    where
      by : (o : Option ℕ) → label_at labels k ≡ o → (l : ℕ) × (label_at labels k ≡ Some l)
      by (Some l) e = (l, e)
      by None e = let b = earlier labels 0 [] k back s lt e in absurd (let below : b.0 < 0 = b.1 in omega (arith, below))

  -- There are walks from a node to the one at its label's position, and back.
  both_ways : (labels : List (Option ℕ)) (k l : ℕ) → IsLabelling graph order labels 0 [] → label_at labels k ≡ Some l → Walk graph k (node_at order l) × Walk graph (node_at order l) k
  both_ways labels k l s e =
      let up = s.leads k l e in
      (subst (λ n. Walk graph n (node_at order l)) up.2 (up.3 up.0 (omega arith) up.1), s.reached k l e)

  pub labels_exact : (labels : List (Option ℕ)) → IsBackward graph order → IsLabelling graph order labels 0 [] → (j k : ℕ) → j < length graph → k < length graph →
      (label_at labels j ≡ label_at labels k) ↔ StronglyConnected graph j k
  labels_exact labels back s j k jn kn =
      let lj = labelled labels back s j jn in (
        λ same. let one = both_ways labels j lj.0 s lj.1 in let two = both_ways labels k lj.0 s (sym same ∙ lj.1) in
            (both_walks graph j (node_at order lj.0) k one.0 two.1, both_walks graph k (node_at order lj.0) j two.0 one.1),
        λ t. let m = along labels 0 s j lj.0 lj.1 k t.0 in let n = along labels 0 s k m.0 m.1 j t.1 in
            let back_is : n.0 ≡ lj.0 = some_is n.0 lj.0 (sym n.1 ∙ lj.1) in
            let up : lj.0 ≤ m.0 = m.2 in
            let down : m.0 ≤ n.0 = n.2 in
            let same : lj.0 ≡ m.0 = omega (arith, up, down, back_is) in
            lj.1 ∙ ap Some same ∙ sym m.1,
      )

pub labelling_skip : (graph : List (List ℕ)) (order : List ℕ) (labels : List (Option ℕ)) (at l : ℕ) → label_at labels (node_at order at) ≡ Some l →
    IsLabelling graph order labels (at + 1) [] → IsLabelling graph order labels at []
labelling_skip graph order labels at l e s = record {
  size = s.size;
  low = λ k m o. let up : at + 1 ≤ m = s.low k m o in omega (arith, up);
  high = s.high;
  done = λ i low high. ⊎_elim (λ same. (l, subst (λ n. label_at labels (node_at order n) ≡ Some l) (sym same) e))
      (λ ne. s.done i (omega (arith, low, ne)) high) (cases_eq i at);
  closed = λ j k m edge o. s.closed j k m edge o;
  opened = λ k c. absurd (none_in k c);
  reached = s.reached;
  leads = s.leads;
}

pub no_waiting : (graph : List (List ℕ)) (order : List ℕ) (labels : List (Option ℕ)) (at : ℕ) (waiting : List ℕ) → length waiting ≡ 0 →
    IsLabelling graph order labels at waiting → IsLabelling graph order labels at []
no_waiting graph order labels at [] e s = s
no_waiting graph order labels at (x ∷ xs) e s = absurd (omega (arith, e))

no_label : (n k l : ℕ) → label_at (replicate n None) k ≡ Some l → ⊥
no_label n k l e =
    let labels : List (Option ℕ) = replicate n None in
    let size : length labels ≡ n = length-replicate n None in
    not_both l (label_at labels k)
    (⊎_elim (λ h. get_or-replicate n k None None h) (λ past. get_or_past labels k None (omega (arith, size, past))) (cases_lt k n)) e

-- before any node is labelled
pub labelling_none : (graph : List (List ℕ)) (order : List ℕ) (labels : List (Option ℕ)) (n at : ℕ) → labels ≡ replicate n None → length graph ≡ n → at ≡ length order →
    IsLabelling graph order labels at []
labelling_none graph order labels n at none size end =
    let No : Type 0 = (k l : ℕ) → label_at labels k ≡ Some l → ⊥ in
    let no : No = rw none (no_label n) in
    record {
      size = ap length none ∙ length-replicate n None ∙ sym size;
      low = λ k l s. absurd (no k l s);
      high = λ k l s. absurd (no k l s);
      done = λ i from to. absurd (omega (arith, from, to, end));
      closed = λ j k l edge s. absurd (no j l s);
      opened = λ k c. absurd (none_in k c);
      reached = λ k l s. absurd (no k l s);
      leads = λ k l s. absurd (no k l s);
    }

-- The source of an edge is a node of the graph.
pub from_inside : (graph : List (List ℕ)) (j k : ℕ) → Edge graph j k → j < length graph
from_inside graph j k e = ⊎_elim (λ h. h) (λ past. absurd (none_in k (subst (λ (ns : List ℕ). Contains ns k) (get_or_past graph j [] past) e))) (cases_lt j (length graph))

-- A finishing order of the transpose graph is a backward order of the graph.
pub turned_back : (graph back : List (List ℕ)) (order : List ℕ) → length back ≡ length graph → IsTranspose graph back → IsFinished back order → IsBackward graph order
turned_back graph back order len t f = record {
  all = λ k lt. f.all k (omega (arith, lt, len));
  inside = λ k c. let below : k < length back = f.inside k c in omega (arith, below, len);
  nested = λ a b c ac cb lt e. turned_walk back graph (λ j k h. (t k j).1 h) (node_at order b) (node_at order c) (f.nested a b c ac cb lt ((t (node_at order b) (node_at order a)).0 e));
}

pub turned_inside : (graph back : List (List ℕ)) → length back ≡ length graph → IsTranspose graph back → (j k : ℕ) → Edge back j k → k < length back
turned_inside graph back len t j k e = let below : k < length graph = from_inside graph k j ((t k j).1 e) in omega (arith, below, len)

-- ---- the same, given the values that the code computes

pub node_first : (label : ℕ) (labels now : List (Option ℕ)) (j : ℕ) (found after : List ℕ) (o : Option ℕ) → j < length labels → label_at labels j ≡ o → is_none o ≡ true →
    now ≡ set labels j (Some label) → after ≡ found ++ j ∷ [] → Labels (j ∷ []) label labels now found after
node_first label labels now j found after None h e n is more =
    rw (is, more) (labels_first label labels j found h e)
node_first label labels now j found after (Some l) h e n is more = absurd (let wrong : false ≡ true = n in cc)

pub node_again : (label : ℕ) (labels : List (Option ℕ)) (j : ℕ) (found : List ℕ) (o : Option ℕ) → label_at labels j ≡ o → is_none o ≡ false →
    Labels (j ∷ []) label labels labels found found
node_again label labels j found None e n = absurd (let wrong : true ≡ false = n in cc)
node_again label labels j found (Some l) e n = labels_again label labels j l found e

pub skipped : (graph : List (List ℕ)) (order : List ℕ) (labels : List (Option ℕ)) (at : ℕ) (o : Option ℕ) → label_at labels (node_at order at) ≡ o → is_some o ≡ true →
    IsLabelling graph order labels (at + 1) [] → IsLabelling graph order labels at []
skipped graph order labels at None e n s = absurd (let wrong : false ≡ true = n in cc)
skipped graph order labels at (Some l) e n s = labelling_skip graph order labels at l e s

-- A waiting node is a node of the graph.
pub node_inside : (graph : List (List ℕ)) (order : List ℕ) (labels : List (Option ℕ)) (at size : ℕ) (all rest : List ℕ) (node : ℕ) → length graph ≡ size →
    all ≡ rest ++ node ∷ [] → IsLabelling graph order labels at all → node < size
node_inside graph order labels at size all rest node nodes e s =
    let was : label_at labels node ≡ Some at = s.opened node (subst (λ (ns : List ℕ). Contains ns node) (sym e) (Contains-append_right rest (node ∷ []) node (is_one node))) in
    let each = s.size in
    ⊎_elim (λ h. omega (arith, h, each, nodes)) (λ past. absurd (not_both at (label_at labels node) (get_or_past labels node None past) was)) (cases_lt node (length labels))

-- A node of the order can have a label.
pub ordered_inside : (graph : List (List ℕ)) (order : List ℕ) (labels : List (Option ℕ)) (at to : ℕ) → at < length order → IsBackward graph order →
    IsLabelling graph order labels to [] → node_at order at < length labels
ordered_inside graph order labels at to h b s =
    let below = b.inside (node_at order at) (Contains-get_or order at 0 h) in
    let size = s.size in
    omega (arith, below, size)
