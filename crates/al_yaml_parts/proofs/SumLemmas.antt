-- What is counted of a node, node after node.
use Rattle.std.proofs.Common.{◌≡◌, ℕ, ◌+◌, ◌<◌, List, [], ◌∷◌, ◌++◌, max, refl, ap, sym, ◌∙◌, arith, length}
use Rattle.al_yaml_tree.specs.Access.{nodes, entries}
use Rattle.al_yaml_tree.specs.Limits.{most_counted}
use Rattle.al_yaml_tree.specs.Node.{Node, Nodes, Entries, scalar, sequence, mapping, no_nodes, item, no_entries, entry}
use Rattle.al_yaml_tree.specs.Node.{fold_node, fold_items, fold_entries, nodes_in, text_size, levels_in}
use Rattle.al_scalar.specs.Scalar.{Scalar}
use Rattle.al_base.specs.declared.faults.Span.{Span}
use Rattle.al_yaml_parts.specs.Private.Sums.{IsOwn, inside, members, own_level, own_text, within}
use Rattle.al_yaml_parts.specs.declared.sums.Sums.{Sums}

-- ---- nodes that are left, each with the number of collections around it: their sums, and that a node is itself and those in it

module _ (of_scalar : Scalar → ℕ) (around : Span → ℕ → ℕ) where
  abbrev pub sum_left : List (Node × ℕ) → ℕ
  sum_left [] = 0
  sum_left (x ∷ xs) = fold_node of_scalar around 0 (λ m n. m + n) (λ k m n. k + m + n) x.0 + sum_left xs

  sum-append : (xs ys : List (Node × ℕ)) → sum_left (xs ++ ys) ≡ sum_left xs + sum_left ys
  sum-append [] ys = omega arith
  sum-append (x ∷ xs) ys = let h = sum-append xs ys in omega (arith, h)

  sum-items : (k : ℕ) (ns : Nodes) → sum_left (within k (nodes ns)) ≡ fold_items of_scalar around 0 (λ m n. m + n) (λ k m n. k + m + n) ns
  sum-items k no_nodes = refl
  sum-items k (item n ns) = ap (λ m. fold_node of_scalar around 0 (λ m n. m + n) (λ k m n. k + m + n) n + m) (sum-items k ns)

  sum-entries : (k : ℕ) (es : Entries) → sum_left (within k (members (entries es))) ≡ fold_entries of_scalar around 0 (λ m n. m + n) (λ k m n. k + m + n) es
  sum-entries k no_entries = refl
  sum-entries k (entry key value es) = let h = sum-entries k es in omega (arith, h)

abbrev pub nodes_left : List (Node × ℕ) → ℕ
nodes_left = sum_left (λ s. 1) (λ at nodes. nodes + 1)

nodes-append : (xs ys : List (Node × ℕ)) → nodes_left (xs ++ ys) ≡ nodes_left xs + nodes_left ys
nodes-append = sum-append (λ s. 1) (λ at nodes. nodes + 1)

pub nodes-inside : (k : ℕ) (n : Node) → nodes_in n ≡ nodes_left (within k (inside n)) + 1
nodes-inside k (scalar s) = refl
nodes-inside k (sequence ns at) = ap (λ m. m + 1) (sym (sum-items (λ s. 1) (λ at nodes. nodes + 1) k ns))
nodes-inside k (mapping es at) = ap (λ m. m + 1) (sym (sum-entries (λ s. 1) (λ at nodes. nodes + 1) k es))

abbrev pub text_left : List (Node × ℕ) → ℕ
text_left = sum_left (λ s. length s.cells) (λ at text. text)

text-append : (xs ys : List (Node × ℕ)) → text_left (xs ++ ys) ≡ text_left xs + text_left ys
text-append = sum-append (λ s. length s.cells) (λ at text. text)

text-inside : (k : ℕ) (n : Node) → text_size n ≡ own_text n + text_left (within k (inside n))
text-inside k (scalar s) = omega arith
text-inside k (sequence ns at) = let h = sum-items (λ s. length s.cells) (λ at text. text) k ns in omega (arith, h)
text-inside k (mapping es at) = let h = sum-entries (λ s. length s.cells) (λ at text. text) k es in omega (arith, h)

abbrev pub levels_left : List (Node × ℕ) → ℕ
levels_left [] = 0
levels_left (x ∷ xs) = max (x.1 + levels_in x.0) (levels_left xs)

levels-append : (xs ys : List (Node × ℕ)) → levels_left (xs ++ ys) ≡ max (levels_left xs) (levels_left ys)
levels-append [] ys = omega arith
levels-append (x ∷ xs) ys = let h = levels-append xs ys in omega (arith, h)

abbrev pub levels_in_items : Nodes → ℕ
levels_in_items = fold_items (λ s. 0) (λ at levels. levels + 1) 0 (λ m n. max m n) (λ k m n. max k (max m n))

abbrev pub levels_in_entries : Entries → ℕ
levels_in_entries = fold_entries (λ s. 0) (λ at levels. levels + 1) 0 (λ m n. max m n) (λ k m n. max k (max m n))

levels-items : (k : ℕ) (ns : Nodes) → max k (levels_left (within k (nodes ns))) ≡ k + levels_in_items ns
levels-items k no_nodes = omega arith
levels-items k (item n ns) = let h = levels-items k ns in omega (arith, h)

levels-entries : (k : ℕ) (es : Entries) → max k (levels_left (within k (members (entries es)))) ≡ k + levels_in_entries es
levels-entries k no_entries = omega arith
levels-entries k (entry key value es) = let h = levels-entries k es in omega (arith, h)

levels-inside : (k m : ℕ) (n : Node) → m ≡ most_counted (k + own_level n)
    → most_counted (max m (levels_left (within m (inside n)))) ≡ most_counted (k + levels_in n)
levels-inside k m (scalar s) e = omega (arith, e)
levels-inside k m (sequence ns at) e = let h = levels-items m ns in omega (arith, e, h)
levels-inside k m (mapping es at) e = let h = levels-entries m es in omega (arith, e, h)

-- ---- what is counted, and what is left

-- counts in their range
pub record Few (s : Sums) : Type 0 where
  pub nodes : most_counted s.nodes ≡ s.nodes
  pub text : most_counted s.text ≡ s.text
  pub levels : most_counted s.levels ≡ s.levels

pub record Added (s more t : Sums) : Type 0 where
  pub nodes : t.nodes ≡ most_counted (s.nodes + more.nodes)
  pub text : t.text ≡ most_counted (s.text + more.text)
  pub levels : t.levels ≡ max s.levels more.levels

pub record IsCounting (n : Node) (s : Sums) (left : List (Node × ℕ)) : Type 0 where
  pub few : Few s
  pub nodes : most_counted (s.nodes + nodes_left left) ≡ most_counted (nodes_in n)
  pub text : most_counted (s.text + text_left left) ≡ most_counted (text_size n)
  pub levels : most_counted (max s.levels (levels_left left)) ≡ most_counted (levels_in n)

capped : (a x e : ℕ) → most_counted x ≡ most_counted e → most_counted (max a x) ≡ most_counted (max a e)
capped a x e h = omega (arith, h)

apart : (a b c d : ℕ) → max (max a c) (max b d) ≡ max a (max b (max c d))
apart a b c d = omega arith

deeper : (a b c d e : ℕ) → most_counted (max c d) ≡ most_counted e
    → most_counted (max (max a c) (max b d)) ≡ most_counted (max a (max b (max e 0)))
deeper a b c d e h =
    let k : e ≡ max e 0 = omega arith in
    ap most_counted (apart a b c d) ∙ capped a (max b (max c d)) (max b (max e 0)) (capped b (max c d) (max e 0) (h ∙ ap most_counted k))

-- one node is taken from the end, and those in it are left there
module _ (n : Node) (x : Node × ℕ) (rest : List (Node × ℕ)) where
  pub fewer-left : (k : ℕ) → nodes_left (rest ++ within k (inside x.0)) < nodes_left (rest ++ x ∷ [])
  fewer-left k =
      let a = nodes-append rest (within k (inside x.0)) in
      let b = nodes-append rest (x ∷ []) in
      let e = nodes-inside k x.0 in
      omega (arith, a, b, e)

  pub counting-next : (s own t : Sums) → IsCounting n s (rest ++ x ∷ []) → IsOwn x own → Added s own t
      → IsCounting n t (rest ++ within own.levels (inside x.0))
  counting-next s own t h o a = record {
    few = record {
      nodes = omega (arith, a.nodes);
      text = omega (arith, a.text);
      levels = omega (arith, a.levels, o.levels, h.few.levels);
    };
    nodes =
        let c = nodes-append rest (within own.levels (inside x.0)) in
        let d = nodes-append rest (x ∷ []) in
        let e = nodes-inside own.levels x.0 in
        omega (arith, a.nodes, o.nodes, h.nodes, c, d, e);
    text =
        let c = text-append rest (within own.levels (inside x.0)) in
        let d = text-append rest (x ∷ []) in
        let e = text-inside own.levels x.0 in
        omega (arith, a.text, o.text, h.text, c, d, e);
    levels =
        ap most_counted (ap (λ m. max m (levels_left (rest ++ within own.levels (inside x.0)))) a.levels
        ∙ ap (max (max s.levels own.levels)) (levels-append rest (within own.levels (inside x.0))))
        ∙ deeper s.levels (levels_left rest) own.levels (levels_left (within own.levels (inside x.0))) (x.1 + levels_in x.0)
        (levels-inside x.1 own.levels x.0 o.levels)
        ∙ ap (λ m. most_counted (max s.levels m)) (sym (levels-append rest (x ∷ []))) ∙ h.levels;
  }
