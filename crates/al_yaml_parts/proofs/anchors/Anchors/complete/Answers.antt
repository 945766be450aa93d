use Rattle.std.proofs.Common.{rules, tests, ap, sym, ◌∙◌, ◌≡◌, false, true}
use Rattle.std.specs.Prelude.{option_copied, option_map}
use Rattle.al_yaml_parts.specs.Reads.{anchor_seen, anchors_view, is_later, last_anchor}
use Rattle.al_yaml_parts.specs.declared.anchors.AnchoredNode.{AnchoredNode}
use Rattle.al_yaml_parts.proofs.AnchorLemmas.{known-put}
use Rattle.al_yaml_parts.proofs.anchors.Anchors.complete.Goals as goal

pub returns-clause-known : goal.returns-clause-known
unfolding last_anchor
returns-clause-known c =
    let name = c.as_slice.result.now in
    let told : c.is_some_and.result ≡ is_later c.args.at (option_map (anchor_seen name) (option_copied c.get.result)) = search (rules, tests) in
    let last : is_later c.args.at (anchors_view c.args.self.now name) ≡ false =
    sym (ap (λ o. is_later c.args.at (option_map (anchor_seen name) o)) c.get.ensures.value) ∙ sym told ∙ c.if-is_some_and.false in
    let anchor : AnchoredNode = record { at = c.args.at; node = c.in_ok-node.node } in
    rw (c.in_ok-name.ensures.items ∙ c.name_at.ensures, c.in_ok-node.ensures) at
    (known-put c.args.self.now (record { latest = c.insert.new.self }) c.in_ok-name.name anchor c.in_ok-insert.ensures.updates
    (sym (ap (λ n. is_later c.args.at (anchors_view c.args.self.now n)) c.as_slice.ensures.value) ∙ last))

pub returns-then-is_some_and-clause-known : goal.returns-then-is_some_and-clause-known
unfolding last_anchor
returns-then-is_some_and-clause-known c =
    let name = c.as_slice.result.now in
    let told : c.is_some_and.result ≡ is_later c.args.at (option_map (anchor_seen name) (option_copied c.get.result)) = search (rules, tests) in
    let last : true ≡ is_later c.args.at (anchors_view c.args.self.now name) =
    sym c.if-is_some_and.true ∙ told ∙ ap (λ o. is_later c.args.at (option_map (anchor_seen name) o)) c.get.ensures.value in
    search (rules, tests, last)
