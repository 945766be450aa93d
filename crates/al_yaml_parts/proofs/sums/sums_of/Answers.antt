use Rattle.std.proofs.Common.{◌≡◌, ◌++◌, ◌∷◌, [], ◌∙◌, ap, arith, map, subst, sym}
use Rattle.std.proofs.lemmas.List.{map-append}
use Rattle.al_yaml_tree.specs.View.{view}
use Rattle.al_yaml_parts.specs.Private.Sums.{uncounted_view}
use Rattle.al_yaml_parts.specs.declared.sums.Sums.{Sums}
use Rattle.al_yaml_parts.proofs.SumLemmas.{IsCounting, counting-next, fewer-left, nodes_left}
use Rattle.al_yaml_parts.proofs.sums.sums_of.Goals as goal

pub nodes-preserved : goal.nodes-preserved
nodes-preserved c =
    let n = view c.args.node.now in
    let x = uncounted_view c.in-Some.next in
    let rest = map uncounted_view c.pop.new.self.items in
    let was : map uncounted_view c.nodes.left.items ≡ rest ++ x ∷ [] =
    ap (map uncounted_view) c.in-Some.ensures.items ∙ map-append uncounted_view c.pop.new.self.items (c.in-Some.next ∷ []) in
    let sums : Sums = record { nodes = c.saturating_add.result; text = c.saturating_add-in-Some.result; levels = c.max.result } in
    subst (IsCounting n sums) (sym c.in_ok-own.ensures.left)
    (counting-next n x rest c.nodes.sums c.in_ok-own.own sums (subst (IsCounting n c.nodes.sums) was c.nodes.invariant) c.in_ok-own.ensures.own
    (record { nodes = c.saturating_add.ensures; text = c.saturating_add-in-Some.ensures; levels = c.max.ensures }))

pub nodes-smaller : goal.nodes-smaller
nodes-smaller c =
    let x = uncounted_view c.in-Some.next in
    let rest = map uncounted_view c.pop.new.self.items in
    let was : map uncounted_view c.nodes.left.items ≡ rest ++ x ∷ [] =
    ap (map uncounted_view) c.in-Some.ensures.items ∙ map-append uncounted_view c.pop.new.self.items (c.in-Some.next ∷ []) in
    let a = ap nodes_left c.in_ok-own.ensures.left in
    let b = ap nodes_left was in
    let d = fewer-left (view c.args.node.now) x rest c.in_ok-own.own.levels in
    omega (arith, a, b, d)
