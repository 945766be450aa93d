use Rattle.std.proofs.Common.{ap, refl, sym, ◌∙◌}
use Rattle.al_scalar.specs.Places.{lines_at}
use Rattle.al_scalar.proofs.RestLemmas.{start-at}
use Rattle.al_yaml_tree.specs.Flow.{after_colon_in_flow}
use Rattle.al_yaml_parts.proofs.flow_nodes.key_colon.Goals as goal

pub returns-then-not-is_simple_key-clause-is : goal.returns-then-not-is_simple_key-clause-is
returns-then-not-is_simple_key-clause-is c = rw (c.new-wrong.ensures, ← c.if-not-is_simple_key.ensures, start-at c.args.bytes.now c.args.at c.requires.at) refl

pub returns-in-None-clause-is : goal.returns-in-None-clause-is
returns-in-None-clause-is c =
    let none = ap (λ b. after_colon_in_flow b (lines_at c.args.bytes.now c.args.read.now.next)) (sym c.is_quote.ensures) ∙ c.in-None.ensures in
    rw (c.new-wrong.ensures, ← c.if-not-is_simple_key.ensures, none, ← c.if-is_late_colon.ensures, start-at c.args.bytes.now c.args.at c.requires.at) refl
