-- A token without the location of its text in memory.
use Rattle.std.specs.Prelude.{ℕ, List, map}
use Rattle.al_base.specs.declared.faults.Span.{Span}
use Rattle.al_expr_grammar.specs.declared.token.TokenKind.{TokenKind}
use Rattle.al_expr_grammar.specs.declared.token.Token.{Token}

pub data Lexeme : Type 0 where
  lexeme : TokenKind → List ℕ → Span → Lexeme

abbrev pub kind_of : Lexeme → TokenKind
kind_of (lexeme k b s) = k

abbrev pub lexeme_text : Lexeme → List ℕ
lexeme_text (lexeme k b s) = b

abbrev pub lexeme_span : Lexeme → Span
lexeme_span (lexeme k b s) = s

abbrev pub kinds : List Lexeme → List TokenKind
kinds ts = map kind_of ts

abbrev pub seen : Token → Lexeme
seen t = lexeme t.kind t.text.now t.span
