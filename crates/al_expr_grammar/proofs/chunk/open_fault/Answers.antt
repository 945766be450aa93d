use Rattle.std.proofs.Common.{◌≡◌, arith, rules, true, false}
use Rattle.std.proofs.lemmas.Bool.Decides.{nat_tests}
use Rattle.std.specs.List.{count_by}
use Rattle.al_expr_grammar.specs.Chunks.{is_outside_quotes}
use Rattle.al_expr_grammar.specs.Tokens.{is_quote}
use Rattle.al_expr_grammar.proofs.Chunking.{even_quotes}
use Rattle.al_expr_grammar.proofs.LastQuote.{last_is}
use Rattle.al_expr_grammar.proofs.chunk.open_fault.Goals as goal

pub returns-then-quotes-eq0 : goal.returns-then-quotes-eq0
returns-then-quotes-eq0 c =
    let n : c.count-quotes.result ≡ count_by is_quote c.args.content.now = search rules in
    let outside : is_outside_quotes c.args.content.now ≡ true = grind (arith, nat_tests, even_quotes c.args.content.now, n, c.if-quotes-eq0.true) in
    rw outside (search rules)

pub returns : goal.returns
returns c =
    let n : c.count-quotes.result ≡ count_by is_quote c.args.content.now = search rules in
    let inside : is_outside_quotes c.args.content.now ≡ false = grind (arith, nat_tests, even_quotes c.args.content.now, n, c.if-quotes-eq0.false) in
    let last = last_is c.args.content.now c.last_quote.result c.last_quote.ensures in
    rw (inside, ← last) (search rules)
