use Rattle.std.proofs.Common.{◌≡◌, ◌+◌, length, map}
use Rattle.std.specs.Str.{IsUtf8}
use Rattle.al_expr_grammar.specs.Lexeme.{seen}
use Rattle.al_expr_grammar.proofs.Lexing.{AreRead}
use Rattle.al_expr_grammar.proofs.lexer.lex.Given as goal

abbrev pub invariant-tokens : goal.invariant-tokens
invariant-tokens l = record {
  place : l.start + length l.rest ≡ length l.content;
  text : IsUtf8 l.rest;
  so_far : AreRead l.content (map seen l.tokens.items) l.start l.rest;
}

abbrev pub decreases-tokens : goal.decreases-tokens
decreases-tokens l = length l.rest
