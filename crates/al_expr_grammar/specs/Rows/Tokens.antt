-- Terms for rows of tokens.
use Rattle.std.specs.Prelude.{ℕ, ◌+◌, List, length}
use Rattle.al_expr_grammar.specs.declared.token.Keyword.TheVariants as keyword
use Rattle.al_expr_grammar.specs.declared.token.Operator.TheVariants as operator
use Rattle.al_expr_grammar.specs.declared.token.TokenKind.{TokenKind}
use Rattle.al_expr_grammar.specs.declared.token.TokenKind.TheVariants as kind
use Rattle.al_expr_grammar.specs.Lexeme.{Lexeme, lexeme}
use Rattle.al_base.specs.Spans.{span}

-- a token of this kind with this text, at an offset
abbrev pub token : TokenKind → List ℕ → ℕ → Lexeme
token k text at = lexeme k text (span at (at + length text))

abbrev pub name : List ℕ → ℕ → Lexeme
name = token kind.Name

abbrev pub dot : List ℕ → ℕ → Lexeme
dot = token kind.Dot

abbrev pub text : List ℕ → ℕ → Lexeme
text = token kind.Text

abbrev pub number : List ℕ → ℕ → Lexeme
number = token kind.Number

abbrev pub word_true : List ℕ → ℕ → Lexeme
word_true = token (kind.Keyword keyword.True)

abbrev pub less : List ℕ → ℕ → Lexeme
less = token (kind.Infix operator.Less)

abbrev pub less_equal : List ℕ → ℕ → Lexeme
less_equal = token (kind.Infix operator.LessEqual)

abbrev pub and : List ℕ → ℕ → Lexeme
and = token (kind.Infix operator.And)

abbrev pub or : List ℕ → ℕ → Lexeme
or = token (kind.Infix operator.Or)

abbrev pub equal : List ℕ → ℕ → Lexeme
equal = token (kind.Infix operator.Equal)

abbrev pub not_equal : List ℕ → ℕ → Lexeme
not_equal = token (kind.Infix operator.NotEqual)
