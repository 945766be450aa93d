use Rattle.std.proofs.Common.{◌-◌, ◌∙◌, drop, length, sym, take}
use Rattle.al_tree.proofs.Dollars.{begins, after, from_dollar, no_dollar}
use Rattle.al_tree.proofs.scalars.contains_chunk.Goals as goal

pub returns-then-starts_with : goal.returns-then-starts_with
returns-then-starts_with c =
    let rest = c.dollars.rest.now in
    sym (sym c.dollars.invariant ∙ from_dollar rest c.in-Some.at c.in-Some.ensures.0
    ∙ begins (take (length rest - c.in-Some.at) (drop c.in-Some.at rest)) (sym c.starts_with.ensures.value ∙ c.if-starts_with.true))

pub dollars-preserved : goal.dollars-preserved
dollars-preserved c =
    let rest = c.dollars.rest.now in
    let found = take (length rest - c.in-Some.at) (drop c.in-Some.at rest) in
    sym (after found (sym c.starts_with.ensures.value ∙ c.if-starts_with.false)) ∙ sym (from_dollar rest c.in-Some.at c.in-Some.ensures.0) ∙ c.dollars.invariant

pub returns : goal.returns
returns c = sym (sym c.dollars.invariant ∙ no_dollar c.dollars.rest.now c.in_default.ensures)
