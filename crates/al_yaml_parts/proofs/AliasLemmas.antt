-- What an alias reads, and its limits.
use Rattle.std.proofs.Common.{◌≡◌, ℕ, zero, suc, ◌+◌, ◌-◌, ◌<◌, ◌≤◌, List, [], ◌∷◌, length, refl, sym, ap, ◌∙◌, arith, Bool, false, ◌||◌, cond, nat_lt, Option, Some, None, Ok, Err}
use Rattle.std.proofs.lemmas.Grind.{common_steps}
use Rattle.al_base.specs.declared.codes.YamlCode.TheVariants as yaml
use Rattle.al_scalar.specs.declared.faults.FaultAt.{FaultAt}
use Rattle.al_yaml_tree.specs.Limits.{broken_limit, most_counted}
use Rattle.al_yaml_tree.specs.Node.{Node, nodes_in, text_size, levels_in}
use Rattle.al_scalar.specs.Line.{start}
use Rattle.al_scalar.specs.Places.{lines_at}
use Rattle.al_scalar.proofs.RestLemmas.{start-at}
use Rattle.al_yaml_tree.specs.Content.{anchor_name, after_name}
use Rattle.al_yaml_parts.specs.Reads.{alias_part, State, run, run_outcome, FailsWith}
use Rattle.al_yaml_parts.specs.declared.faults.ReadError.{ReadError}
use Rattle.al_yaml_parts.proofs.ReadLemmas.{bind-ok, stops-bind, stops-from}
use Rattle.al_yaml_tree.specs.Reading.{Reading, Part, part, gives, ◌>>=◌, Anchor, alias, alias_of, alias_start, start_of, deepest}
use Rattle.al_yaml_parts.proofs.RunLemmas.{run-fails, run-gives, run-any_start, run-broken_start}

pub run-alias : (s : State) (name : List ℕ) (at depth : ℕ) (o : Option Anchor) → s.known name ≡ o → run s (alias name at depth) ≡ run s (alias_of o at depth)
unfolding run
run-alias s name at depth o h = ap (λ o. run_outcome s (alias_of o at depth s.known)) h

-- ---- counts that stay at their greatest value break the same limits

same-nodes : (n m : ℕ) → nat_lt 100000 (n + most_counted m) ≡ nat_lt 100000 (n + m)
same-nodes n m = grind (arith, common_steps)

same-text : (t m : ℕ) → nat_lt 1048576 (most_counted (t + most_counted m) + 0) ≡ nat_lt 1048576 (t + m)
same-text t m = grind (arith, common_steps)

same-depth : (d : ℕ) → nat_lt 64 (most_counted d) ≡ nat_lt 64 d
same-depth d = grind (arith, common_steps)

deepest-some : (depth m : ℕ) → 0 < m → deepest depth m ≡ depth + (m - 1)
deepest-some depth zero h = absurd (omega (arith, h))
deepest-some depth (suc m) h = let e : suc m - 1 ≡ m = omega arith in ap (λ i. depth + i) (sym e)

deep-cases : (depth l : ℕ) → nat_lt 64 (deepest depth (most_counted l)) ≡ nat_lt 64 (deepest depth l)
deep-cases depth zero = refl
deep-cases depth (suc l) =
    let e = deepest-some depth (most_counted (suc l)) (omega arith) in
    grind (arith, common_steps, e)

same-deepest : (depth l : ℕ) → nat_lt 64 (most_counted (deepest depth (most_counted l))) ≡ nat_lt 64 (deepest depth l)
same-deepest depth l = same-depth (deepest depth (most_counted l)) ∙ deep-cases depth l

abbrev broken : Bool → Bool → Bool → ℕ → Option FaultAt
broken a b c at = cond (a || b) (Some (record { code = yaml.TooManyNodes; at = at })) (cond c (Some (record { code = yaml.NestingTooDeep; at = at })) None)

pub same-limits : (n t at depth : ℕ) (x : Node) (nodes text levels deep : ℕ) → nodes ≡ most_counted (nodes_in x) → text ≡ most_counted (t + most_counted (text_size x))
    → levels ≡ most_counted (levels_in x) → deep ≡ most_counted (deepest depth levels)
    → broken_limit n text (start_of at nodes deep ∷ []) ≡ broken_limit n t (alias_start at depth x ∷ [])
same-limits n t at depth x nodes text levels deep a b c d =
    let e : nat_lt 100000 (n + nodes) ≡ nat_lt 100000 (n + nodes_in x) = ap (λ m. nat_lt 100000 (n + m)) a ∙ same-nodes n (nodes_in x) in
    let f : nat_lt 1048576 (text + 0) ≡ nat_lt 1048576 (t + text_size x) = ap (λ m. nat_lt 1048576 (m + 0)) b ∙ same-text t (text_size x) in
    let g : nat_lt 64 deep ≡ nat_lt 64 (deepest depth (levels_in x)) =
    ap (nat_lt 64) (d ∙ ap (λ l. most_counted (deepest depth l)) c) ∙ same-deepest depth (levels_in x) in
    rw (e, f, g) refl

-- what fits is counted as it is
fits : (n t nodes deep at : ℕ) → broken_limit n t (start_of at nodes deep ∷ []) ≡ None → (nat_lt 100000 (n + nodes) ≡ false) × (nat_lt 1048576 (t + 0) ≡ false)
fits n t nodes deep at h = (grind (arith, common_steps, h), grind (arith, common_steps, h))

exact-nodes : (n m : ℕ) → nat_lt 100000 (n + most_counted m) ≡ false → most_counted m ≡ m
exact-nodes n m h = grind (arith, common_steps, h)

exact-text : (t m : ℕ) → nat_lt 1048576 (most_counted (t + most_counted m) + 0) ≡ false → most_counted (t + most_counted m) ≡ t + m
exact-text t m h = grind (arith, common_steps, h)

module _ (s : State) (name : List ℕ) (at depth : ℕ) where
  pub alias-unknown : s.known name ≡ None → run s (alias name at depth) ≡ Err (record { code = yaml.UnknownAlias; at = at })
  alias-unknown h = run-alias s name at depth None h ∙ run-fails s yaml.UnknownAlias at

  module _ (a : Anchor) (found : s.known name ≡ Some a) (nodes text levels deep : ℕ) (is-nodes : nodes ≡ most_counted (nodes_in a.node))
      (is-text : text ≡ most_counted (s.text + most_counted (text_size a.node))) (is-levels : levels ≡ most_counted (levels_in a.node)) (is-deep : deep ≡ most_counted (deepest depth levels)) where
    same : broken_limit s.nodes text (start_of at nodes deep ∷ []) ≡ broken_limit s.nodes s.text (alias_start at depth a.node ∷ [])
    same = same-limits s.nodes s.text at depth a.node nodes text levels deep is-nodes is-text is-levels is-deep

    pub alias-broken : (e : FaultAt) → broken_limit s.nodes text (start_of at nodes deep ∷ []) ≡ Some e → run s (alias name at depth) ≡ Err e
    alias-broken e h =
        run-alias s name at depth (Some a) found ∙ run-broken_start s (alias_start at depth a.node) (gives a.node) e (sym same ∙ h)

    pub alias-read : broken_limit s.nodes text (start_of at nodes deep ∷ []) ≡ None
        → run s (alias name at depth) ≡ Ok (a.node, record { nodes = s.nodes + nodes; text = text; known = s.known })
    alias-read h =
        let f = fits s.nodes text nodes deep at h in
        let p : nodes ≡ nodes_in a.node = is-nodes ∙ exact-nodes s.nodes (nodes_in a.node) (ap (λ m. nat_lt 100000 (s.nodes + m)) (sym is-nodes) ∙ f.0) in
        let q : text ≡ s.text + text_size a.node = is-text ∙ exact-text s.text (text_size a.node) (ap (λ m. nat_lt 1048576 (m + 0)) (sym is-text) ∙ f.1) in
        run-alias s name at depth (Some a) found
        ∙ run-any_start s (alias_start at depth a.node) (gives a.node) (sym same ∙ h)
        ∙ run-gives (record { nodes = s.nodes + nodes_in a.node; text = s.text + text_size a.node; known = s.known }) a.node
        ∙ rw (← p, ← q) refl

-- ---- an alias with what is left after it

module _ (bytes : List ℕ) (at : ℕ) (inside : at ≤ length bytes) (s : State) (depth : ℕ) where
  abbrev after_alias : Node → Reading (Part Node)
  after_alias n = gives (part n (start (after_name (lines_at bytes at))) (after_name (lines_at bytes at)))

  alias-here : run s (alias_part depth (lines_at bytes at)) ≡ run s (alias (anchor_name (lines_at bytes at)) at depth >>= after_alias)
  alias-here = ap (λ i. run s (alias (anchor_name (lines_at bytes at)) i depth >>= after_alias)) (start-at bytes at inside)

  pub alias-stops : (e : ReadError) → FailsWith (alias (anchor_name (lines_at bytes at)) at depth) s e → FailsWith (alias_part depth (lines_at bytes at)) s e
  alias-stops e h = stops-from (alias_part depth (lines_at bytes at)) (alias (anchor_name (lines_at bytes at)) at depth >>= after_alias) s s e alias-here
      (stops-bind (alias (anchor_name (lines_at bytes at)) at depth) after_alias s e h)

  pub alias-part : (n : Node) (t : State) (end : ℕ) → end ≤ length bytes → after_name (lines_at bytes at) ≡ lines_at bytes end
      → run s (alias (anchor_name (lines_at bytes at)) at depth) ≡ Ok (n, t) → run s (alias_part depth (lines_at bytes at)) ≡ Ok (part n end (lines_at bytes end), t)
  alias-part n t end to h k =
      alias-here ∙ bind-ok (alias (anchor_name (lines_at bytes at)) at depth) after_alias s t n k
      ∙ rw (h, start-at bytes end to) (run-gives t (part n end (lines_at bytes end)))
