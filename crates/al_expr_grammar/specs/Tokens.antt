-- The tokens of a content.
--
-- A content splits into a first part and the rest, whose tokens follow: the part is a blank, or a
-- token, the longest that begins there. Otherwise the first character begins no token, or a text is
-- never closed.
use Rattle.al_base.specs.Ascii.{ascii, is_sign}
use Rattle.al_base.specs.FirstBytes.{first_is, begins_with}
use Rattle.al_base.specs.Positions.{begins_char}
use Rattle.al_expr_grammar.specs.declared.token.Operator.TheVariants.{Or, And, Equal, NotEqual}
use Rattle.al_expr_grammar.specs.declared.token.Operator.TheVariants.{Less, LessEqual, Greater}
use Rattle.al_expr_grammar.specs.declared.token.Operator.TheVariants.{GreaterEqual}
use Rattle.al_expr_grammar.specs.declared.token.Keyword.TheVariants as keyword
use Rattle.al_expr_grammar.specs.declared.lexer.Read.{Read}
use Rattle.al_expr_grammar.specs.declared.lexer.Read.TheVariants.{Blank, Token, BadCharacter}
use Rattle.al_expr_grammar.specs.declared.lexer.Read.TheVariants.{OpenText}
use Rattle.al_expr_grammar.specs.declared.token.TokenKind.{TokenKind}
use Rattle.al_expr_grammar.specs.declared.token.TokenKind.TheVariants.{Name, Keyword, Number, Text}
use Rattle.al_expr_grammar.specs.declared.token.TokenKind.TheVariants.{Open, Close, OpenIndex}
use Rattle.al_expr_grammar.specs.declared.token.TokenKind.TheVariants.{CloseIndex, Dot}
use Rattle.al_expr_grammar.specs.declared.token.TokenKind.TheVariants.{Comma, Star, Bang, Infix}
use Rattle.al_base.specs.Spans.{span}
use Rattle.al_base.specs.declared.faults.Span.{Span}
use Rattle.al_expr_grammar.specs.Lexeme.{Lexeme, lexeme}
use Rattle.std.specs.Char.{is_ascii_alphabetic, is_ascii_digit, is_ascii_hexdigit}
use Rattle.std.specs.List.{prefix_len, starts_with}
use Rattle.std.specs.Option.{option_map_or, option_or}
use Rattle.std.specs.Str.{bytes_eq}
use Rattle.std.specs.Prelude.{codes, ℕ, zero, suc, ◌+◌, List, [], ◌∷◌, Bool, ◌||◌, ◌==◌}
use Rattle.std.specs.Prelude.{if◌then◌else◌, max, nat_eq, not}
use Rattle.std.specs.Prelude.{find, take, drop, Option, Some, None, option_map, length}

abbrev pub begins_name : ℕ → Bool
begins_name b = is_ascii_alphabetic b || b == ascii "_"

abbrev pub goes_on_name : ℕ → Bool
goes_on_name b = begins_name b || is_ascii_digit b || b == ascii "-"

abbrev pub is_blank_byte : ℕ → Bool
is_blank_byte b = b == ascii " " || b == ascii "\t" || b == ascii "\n" || b == ascii "\r"

abbrev pub is_quote : ℕ → Bool
is_quote b = b == ascii "'"

-- a part that needs at least one digit: this many bytes and the digits after them
abbrev pub with_digits : ℕ → ℕ → ℕ
with_digits lead zero = 0
with_digits lead (suc n) = lead + suc n

-- `0x` and hexadecimal digits
abbrev pub hex_len : List ℕ → ℕ
hex_len bs = if starts_with nat_eq bs (codes "0x")
    then with_digits 2 (prefix_len is_ascii_hexdigit (drop 2 bs)) else 0

-- a dot and digits
abbrev pub fraction_len : List ℕ → ℕ
fraction_len bs = if begins_with (ascii ".") bs
    then with_digits 1 (prefix_len is_ascii_digit (drop 1 bs)) else 0

-- an `e`, a sign or none, and digits
abbrev pub exponent_len : List ℕ → ℕ
exponent_len bs =
    let lead = if first_is is_sign (drop 1 bs) then 2 else 1 in
    if first_is (λ b. b == ascii "E" || b == ascii "e") bs
    then with_digits lead (prefix_len is_ascii_digit (drop lead bs)) else 0

-- what follows the digits of a decimal number
abbrev pub decimal_tail : List ℕ → ℕ
decimal_tail bs = fraction_len bs + exponent_len (drop (fraction_len bs) bs)

abbrev pub decimal_len : List ℕ → ℕ
decimal_len bs = let whole = prefix_len is_ascii_digit bs in if first_is is_ascii_digit bs
    then whole + decimal_tail (drop whole bs) else 0

-- the length of the longest number without its sign, or 0 if there is none
abbrev pub unsigned_len : List ℕ → ℕ
unsigned_len bs = max (hex_len bs) (decimal_len bs)

abbrev pub number_len : List ℕ → ℕ
number_len bs = if first_is is_sign bs then with_digits 1 (unsigned_len (drop 1 bs))
    else unsigned_len bs

abbrev pub add_to : ℕ → Option ℕ → Option ℕ
add_to n o = option_map (λ m. n + m) o

-- The number of bytes after the opening quote of a string, its closing quote included, if it is
-- closed: two quotes are one in the string, and the first single one closes it.
abbrev pub text_tail : List ℕ → Option ℕ
text_tail [] = None
text_tail (b ∷ []) = if is_quote b then Some 1 else None
text_tail (b ∷ c ∷ bs) = if is_quote b then (if is_quote c then add_to 2 (text_tail bs) else Some 1)
    else add_to 1 (text_tail (c ∷ bs))

-- `null`, `true` and `false` are keywords
abbrev pub word_kind : List ℕ → TokenKind
word_kind b =
    if bytes_eq b (codes "null") then Keyword keyword.Null
    else if bytes_eq b (codes "true") then Keyword keyword.True
    else if bytes_eq b (codes "false") then Keyword keyword.False
    else Name

-- the marks; of two that begin alike, the longer one comes first
abbrev pub marks : List (List ℕ × TokenKind)
marks =
    (codes "(", Open) ∷ (codes ")", Close) ∷ (codes "[", OpenIndex) ∷ (codes "]", CloseIndex)
    ∷ (codes ".", Dot) ∷ (codes ",", Comma)
    ∷ (codes "*", Star) ∷ (codes "!=", Infix NotEqual) ∷ (codes "!", Bang)
    ∷ (codes "<=", Infix LessEqual) ∷ (codes "<", Infix Less)
    ∷ (codes ">=", Infix GreaterEqual) ∷ (codes ">", Infix Greater) ∷ (codes "==", Infix Equal)
    ∷ (codes "&&", Infix And)
    ∷ (codes "||", Infix Or) ∷ []

abbrev pub mark : List ℕ → Read
mark bs =
    option_map_or (λ m. Token m.1 (length m.0)) (find (λ m. starts_with nat_eq bs m.0) marks)
    BadCharacter

abbrev pub text_read : Option ℕ → Read
text_read tail = option_map_or (λ n. Token Text (1 + n)) tail OpenText

-- a number of a positive length
abbrev pub number_read : ℕ → Read
number_read zero = BadCharacter
number_read (suc n) = Token Number (suc n)

abbrev pub name_read : List ℕ → Read
name_read bs = Token (word_kind (take (prefix_len goes_on_name bs) bs)) (prefix_len goes_on_name bs)

abbrev pub read : List ℕ → Read
read [] = BadCharacter
read (b ∷ bs) =
    if is_blank_byte b then Blank
    else if begins_name b then name_read (b ∷ bs)
    else if is_quote b then text_read (text_tail bs)
    else if is_ascii_digit b || is_sign b then number_read (number_len (b ∷ bs))
    else mark (b ∷ bs)

pub data Lexed : Type 0 where
  AllRead : List Lexeme → Lexed
  -- at the bad character
  Bad : Span → Lexed
  -- a quote is open
  Unclosed : Lexed

abbrev pub then_token : Lexeme → Lexed → Lexed
then_token t (AllRead ts) = AllRead (t ∷ ts)
then_token t other = other

-- the span of the first character of bytes at an offset
abbrev pub character_span : ℕ → List ℕ → Span
character_span at bs = span at (at + 1 + prefix_len (λ b. not (begins_char b)) (drop 1 bs))

-- the tokens of bytes, given the part that they begin with
abbrev pub with_first : (ℕ → List ℕ → Lexed) → Read → ℕ → List ℕ → Lexed
with_first rest Blank at bs = rest (at + 1) (drop 1 bs)
with_first rest (Token k n) at bs =
    then_token (lexeme k (take n bs) (span at (at + n))) (rest (at + n) (drop n bs))
with_first rest BadCharacter at bs = Bad (character_span at bs)
with_first rest OpenText at bs = Unclosed

-- the tokens of bytes at an offset: at most this many, blanks included
abbrev pub tokens_within : ℕ → ℕ → List ℕ → Lexed
tokens_within zero at bs = AllRead []
tokens_within (suc n) at [] = AllRead []
tokens_within (suc n) at (b ∷ bs) = with_first (tokens_within n) (read (b ∷ bs)) at (b ∷ bs)

abbrev pub tokens_of : List ℕ → Lexed
tokens_of content = tokens_within (length content) 0 content

-- the offset of the last quote
abbrev pub last_quote : List ℕ → Option ℕ
last_quote [] = None
last_quote (b ∷ bs) =
    option_or (option_map suc (last_quote bs)) (if is_quote b then Some 0 else None)
