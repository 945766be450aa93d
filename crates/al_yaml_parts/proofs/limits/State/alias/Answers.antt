use Rattle.std.proofs.Common.{ap, refl, sym, ◌+◌, ◌∙◌}
use Rattle.std.specs.Prelude.{option_map}
use Rattle.std.proofs.lemmas.Result.{err_from_is_err_and}
use Rattle.al_yaml_tree.specs.Content.{anchor_name}
use Rattle.al_yaml_tree.specs.Limits.{most_counted}
use Rattle.al_yaml_parts.specs.Files.{left_at}
use Rattle.al_yaml_parts.specs.Reads.{anchor_seen, anchors_view, last_anchor, state_of}
use Rattle.al_yaml_parts.proofs.AliasLemmas.{alias-broken, alias-read, alias-unknown}
use Rattle.al_yaml_parts.proofs.limits.State.alias.Goals as goal

pub returns-in_default-clause-is : goal.returns-in_default-clause-is
unfolding last_anchor
returns-in_default-clause-is c =
    let name = anchor_name (left_at c.args.file.now c.args.at) in
    rw c.at.ensures.is (alias-unknown (state_of c.args.self.now) name c.args.at c.args.depth
    (ap (anchors_view c.args.self.now.anchors) (sym c.name_at.ensures) ∙ ap (option_map (anchor_seen c.name_at.result.now)) (sym c.in_default.ensures.value)))

pub returns-in_err-start-clause-is : goal.returns-in_err-start-clause-is
unfolding last_anchor
returns-in_err-start-clause-is c =
    let p = err_from_is_err_and c.from_residual-in_err-start.result c.from_residual-in_err-start.ensures.1 in
    let name = anchor_name (left_at c.args.file.now c.args.at) in
    let found = ap (anchors_view c.args.self.now.anchors) (sym c.name_at.ensures) ∙ ap (option_map (anchor_seen c.name_at.result.now)) (sym c.in-Some.ensures.value) in
    let sums = rw c.deref.ensures at c.in_ok-sums.ensures in
    rw (p.1, p.2) (alias-broken (state_of c.args.self.now) name c.args.at c.args.depth (anchor_seen c.name_at.result.now c.in-Some.found.now) found
    c.in_ok-sums.sums.nodes c.saturating_add-self.result c.in_ok-sums.sums.levels c.deepest.result
    sums.nodes (c.saturating_add-self.ensures ∙ ap (λ m. most_counted (c.args.self.now.text + m)) sums.text) sums.levels c.deepest.ensures
    c.in_err-start.field-0.0 c.in_err-start.ensures.limits)

pub returns-clause-is : goal.returns-clause-is
unfolding last_anchor
returns-clause-is c =
    let name = anchor_name (left_at c.args.file.now c.args.at) in
    let found = ap (anchors_view c.args.self.now.anchors) (sym c.name_at.ensures) ∙ ap (option_map (anchor_seen c.name_at.result.now)) (sym c.in-Some.ensures.value) in
    let sums = rw c.deref.ensures at c.in_ok-sums.ensures in
    alias-read (state_of c.args.self.now) name c.args.at c.args.depth (anchor_seen c.name_at.result.now c.in-Some.found.now) found
    c.in_ok-sums.sums.nodes c.saturating_add-self.result c.in_ok-sums.sums.levels c.deepest.result
    sums.nodes (c.saturating_add-self.ensures ∙ ap (λ m. most_counted (c.args.self.now.text + m)) sums.text) sums.levels c.deepest.ensures
    c.in_ok-start.ensures.limits ∙ rw (c.in_ok-node.ensures, c.in_ok-start.ensures.state) refl
