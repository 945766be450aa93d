use Rattle.std.proofs.Common.{◌≡◌, ◌<◌, length, length-drop, ap, arith, refl, rules, sym, Some}
use Rattle.std.proofs.lemmas.Str.{IsUtf8-drop}
use Rattle.std.proofs.lemmas.List.{map-append, take_rest}
use Rattle.al_expr_grammar.proofs.Lexing.{all_read, ends_char, past_token, stays_open, stops_at}
use Rattle.al_expr_grammar.proofs.LastQuote.{last_is}
use Rattle.al_expr_grammar.proofs.Quotes.{quote_found}
use Rattle.al_expr_grammar.proofs.Reading.{blank_fits, token_fits}
use Rattle.al_expr_grammar.proofs.lexer.lex.Goals as goal

pub range_from-rest-requires : goal.range_from-rest-requires
range_from-rest-requires c =
    let f = blank_fits c.tokens.rest.now (rw c.as_bytes.ensures.value at c.in-Blank.ensures) in
    let some : 0 < length c.tokens.rest.now = search rules in
    λ h. ends_char c.tokens.rest.now 1 c.tokens.invariant.text (omega arith) (omega arith) f

pub split_at-requires : goal.split_at-requires
split_at-requires c =
    let f = token_fits c.tokens.rest.now _ _ (rw c.as_bytes.ensures.value at c.in-Token.ensures) in
    ends_char c.tokens.rest.now c.in-Token.len c.tokens.invariant.text f.0 f.1 f.2

pub overflow_add-end : goal.overflow_add-end
overflow_add-end c =
    let f = token_fits c.tokens.rest.now _ _ (rw c.as_bytes.ensures.value at c.in-Token.ensures) in
    omega (arith, f.1, c.tokens.invariant.place, c.requires)

pub overflow_cast-end : goal.overflow_cast-end
overflow_cast-end c =
    let f = token_fits c.tokens.rest.now _ _ (rw c.as_bytes.ensures.value at c.in-Token.ensures) in
    omega (arith, f.1, c.tokens.invariant.place, c.requires)

pub tokens-smaller : goal.tokens-smaller
tokens-smaller c =
    let f = token_fits c.tokens.rest.now _ _ (rw c.as_bytes.ensures.value at c.in-Token.ensures) in
    omega (arith, f.0, f.1, ap length c.split_at.ensures.back, length-drop c.in-Token.len c.tokens.rest.now)

pub tokens-preserved : goal.tokens-preserved
tokens-preserved c =
    let r = rw c.as_bytes.ensures.value at c.in-Token.ensures in
    let f = token_fits c.tokens.rest.now _ _ r in
    let front = c.split_at.ensures.front in
    let back = c.split_at.ensures.back in
    let boundary = ends_char c.tokens.rest.now c.in-Token.len c.tokens.invariant.text f.0 f.1 f.2 in
    record {
      place = omega (arith, f.1, ap length back, length-drop c.in-Token.len c.tokens.rest.now);
      text = rw back (IsUtf8-drop _ _ c.tokens.invariant.text boundary);
      so_far = rw (c.in_ok-push-in-Token.ensures.items, map-append, front, back) (past_token _ _ _ _ c.tokens.invariant.so_far (omega (arith, f.0, f.1)) _ _ r f.0);
    }

pub returns-in-BadCharacter : goal.returns-in-BadCharacter
returns-in-BadCharacter c =
    let r = rw c.as_bytes.ensures.value at c.in-BadCharacter.ensures in
    let some : 0 < length c.tokens.rest.now = search rules in
    let inside = rw (c.as_bytes-in-BadCharacter.ensures.value, take_rest) at c.inside_len.ensures.value in
    rw (stops_at _ _ _ _ c.tokens.invariant.so_far some r, c.plain_fault.ensures, inside) refl

pub unreachable-requires : goal.unreachable-requires
unreachable-requires c =
    let r = rw c.as_bytes.ensures.value at c.in-OpenText.ensures in
    let some : 0 < length c.tokens.rest.now = search rules in
    let last = last_is c.args.content.now c.last_quote.result (rw c.as_bytes-in-OpenText.ensures.value at c.last_quote.ensures) in
    quote_found c.args.content.now c.last_quote.result (stays_open _ _ _ _ c.tokens.invariant.so_far some r) last c.in_default.not-Some

pub returns-in-OpenText : goal.returns-in-OpenText
returns-in-OpenText c =
    let r = rw c.as_bytes.ensures.value at c.in-OpenText.ensures in
    let some : 0 < length c.tokens.rest.now = search rules in
    let last = last_is c.args.content.now (Some c.in-Some.quote) (rw c.as_bytes-in-OpenText.ensures.value at c.in-Some.ensures) in
    rw (stays_open _ _ _ _ c.tokens.invariant.so_far some r, ← last) (sym c.unclosed_text.ensures)

pub returns : goal.returns
returns c =
    let none : length c.tokens.rest.now ≡ 0 = search rules in
    all_read _ _ _ _ c.tokens.invariant.so_far none
