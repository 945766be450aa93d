-- The tree that tokens spell, built from the last token to the first. For tokens that spell none it
-- is some tree, which is never used.
use Rattle.std.specs.Prelude.{ℕ, zero, suc, List, [], ◌∷◌, drop, slice_index_or}
use Rattle.std.specs.List.{fold}
use Rattle.al_base.specs.declared.faults.Span.{Span}
use Rattle.al_base.specs.Spans.{span}
use Rattle.al_expr_grammar.specs.declared.token.TokenKind.TheVariants as kind
use Rattle.al_expr_grammar.specs.Grammar.{level_of}
use Rattle.al_expr_grammar.specs.Lexeme.{Lexeme, lexeme}
use Rattle.al_expr_grammar.specs.Tokens.{Lexed, AllRead, tokens_of}
use Rattle.al_expr_grammar.specs.Tree.{Sign, sign, Tree, Constant, Number, Text, Named, Call, Group}
use Rattle.al_expr_grammar.specs.Tree.{Negated}
use Rattle.al_expr_grammar.specs.Tree.{StepTree, Property, All, Index, arguments_of, chain_of}
use Rattle.al_expr_grammar.specs.Tree.{path_of}

-- What follows an operand in its bracket: the steps of its path; the operators with their operands,
-- level by level from the tightest; the arguments after its own; and where the bracket closes.
pub record Remainder : Type 0 where
  pub steps : List StepTree
  pub levels : List (List (Sign × Tree))
  pub arguments : List Tree
  pub close : Span

-- what follows in the innermost bracket, and in those around it
abbrev pub Following : Type 0
Following = Remainder × List Remainder

-- nothing but a bracket that closes here
abbrev pub close_at : Span → List Remainder → Following
close_at s around = (record { steps = []; levels = []; arguments = []; close = s }, around)

-- what follows a bracket
abbrev pub past_bracket : List Remainder → Following
past_bracket [] = close_at (span 0 0) []
past_bracket (r ∷ around) = (r, around)

abbrev pub with_step : StepTree → Following → Following
with_step s f = (record f.0 { steps = s ∷ f.0.steps }, f.1)

-- an operand with the path that it begins, and what follows
abbrev pub with_path : Tree → Following → Tree × Following
with_path t f = (path_of t f.0.steps, (record f.0 { steps = [] }, f.1))

-- An operator of a level and the operand after it, before other operators: those that bind tighter
-- belong to the operand.
abbrev pub add_operator : ℕ → Sign → Tree → List (List (Sign × Tree)) → List (List (Sign × Tree))
add_operator zero s t levels = ((s, t) ∷ slice_index_or levels 0 []) ∷ drop 1 levels
add_operator (suc l) s t levels =
    [] ∷ add_operator l s (chain_of t (slice_index_or levels 0 [])) (drop 1 levels)

-- the expression that an operand begins
abbrev pub whole : Tree × Following → Tree
whole x = fold chain_of x.0 x.1.0.levels

-- what is built from the expressions in a bracket, and what follows it
abbrev pub in_bracket : (Tree → List Tree → Span → Tree) → Tree × Following → Tree × Following
in_bracket make x = with_path (make (whole x) x.1.0.arguments x.1.0.close) (past_bracket x.1.1)

abbrev mutual
  -- what follows an operand
  pub following_operand : List Lexeme → Following
  following_operand (lexeme (kind.Infix o) b s ∷ ts) =
      let x = from_operand ts in
      (record x.1.0 { levels = add_operator (level_of o) (sign o s) x.0 x.1.0.levels }, x.1.1)
  following_operand (lexeme kind.Dot b d ∷ lexeme kind.Star c s ∷ ts) =
      with_step (All d s) (following_operand ts)
  following_operand (lexeme kind.Dot b d ∷ lexeme k c s ∷ ts) =
      with_step (Property d c s) (following_operand ts)
  following_operand (lexeme kind.OpenIndex b d ∷ lexeme kind.Star c s ∷ lexeme k a e ∷ ts) =
      with_step (All d e) (following_operand ts)
  following_operand (lexeme kind.OpenIndex b d ∷ ts) =
      let x = from_operand ts in with_step (Index d (whole x) x.1.0.close) (past_bracket x.1.1)
  following_operand (lexeme kind.Comma b s ∷ ts) =
      let x = from_operand ts in
      (record x.1.0 { levels = []; arguments = whole x ∷ x.1.0.arguments }, x.1.1)
  following_operand (lexeme k b s ∷ ts) = let f = following_operand ts in close_at s (f.0 ∷ f.1)
  following_operand [] = close_at (span 0 0) []

  -- an operand and what follows it
  pub from_operand : List Lexeme → Tree × Following
  from_operand (lexeme (kind.Keyword w) b s ∷ ts) = with_path (Constant w s) (following_operand ts)
  from_operand (lexeme kind.Number b s ∷ ts) = with_path (Number b s) (following_operand ts)
  from_operand (lexeme kind.Text b s ∷ ts) = with_path (Text b s) (following_operand ts)
  from_operand (lexeme kind.Name b s ∷ lexeme kind.Open c u ∷ lexeme kind.Close d e ∷ ts) =
      with_path (Call b s (arguments_of []) e) (following_operand ts)
  from_operand (lexeme kind.Name b s ∷ lexeme kind.Open c u ∷ ts) =
      in_bracket (λ t more e. Call b s (arguments_of (t ∷ more)) e) (from_operand ts)
  from_operand (lexeme kind.Name b s ∷ ts) = with_path (Named b s) (following_operand ts)
  from_operand (lexeme kind.Open b s ∷ ts) = in_bracket (λ t more e. Group t s e) (from_operand ts)
  from_operand (lexeme kind.Bang b s ∷ ts) = let x = from_operand ts in (Negated s x.0, x.1)
  from_operand ts = with_path (Named [] (span 0 0)) (close_at (span 0 0) [])

abbrev pub tree_of_tokens : Lexed → Tree
tree_of_tokens (AllRead ts) = whole (from_operand ts)
tree_of_tokens other = whole (from_operand [])

-- the tree that a content spells
abbrev pub tree_of_content : List ℕ → Tree
tree_of_content content = tree_of_tokens (tokens_of content)
