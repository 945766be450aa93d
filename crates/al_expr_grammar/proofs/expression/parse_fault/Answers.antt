use Rattle.std.proofs.Common.{◌<◌, arith, rules}
use Rattle.std.proofs.lemmas.List.{length-map}
use Rattle.al_expr_grammar.proofs.Left.{fault_at_token, is_unexpected, unexpected_within, verdict_lies}
use Rattle.al_expr_grammar.proofs.expression.parse_fault.Goals as goal

pub overflow_sub-token : goal.overflow_sub-token
overflow_sub-token c = unexpected_within c.args.tokens.now _ (rw c.in-Unexpected.is at c.requires)

pub overflow_sub-token-in-TooDeep : goal.overflow_sub-token-in-TooDeep
overflow_sub-token-in-TooDeep c = (verdict_lies c.args.tokens.now _ (rw c.in-TooDeep.is at c.requires)).1

pub bounds-tokens-tokens-in-TooDeep : goal.bounds-tokens-tokens-in-TooDeep
bounds-tokens-tokens-in-TooDeep c =
    let v = verdict_lies c.args.tokens.now _ (rw c.in-TooDeep.is at c.requires) in omega (arith, v.0, v.1)

pub returns-in_ok-from_str-in-Unexpected : goal.returns-in_ok-from_str-in-Unexpected
returns-in_ok-from_str-in-Unexpected c =
    let r = rw c.in-Unexpected.is at c.requires in
    let some : 0 < c.in-Unexpected.left = search rules in
    let v = is_unexpected _ _ some r in
    let w = unexpected_within c.args.tokens.now _ r in
    rw (v, length-map, c.one.ensures, c.in_ok-from_str-in-Unexpected.ensures.ok) (fault_at_token _ c.args.tokens.now _ _ (omega (arith, w, some)))

pub returns-in-TooDeep : goal.returns-in-TooDeep
returns-in-TooDeep c =
    let v = rw c.in-TooDeep.is at c.requires in
    let w = verdict_lies c.args.tokens.now _ v in
    rw (v, length-map, c.plain_fault-in-TooDeep.ensures) (fault_at_token _ c.args.tokens.now _ _ (omega (arith, w.0, w.1)))
