-- How the table relates to the grammar.
use Rattle.std.specs.Prelude.{◌≡◌, ◌≢◌, ◌↔◌, ℕ, List, ◌∷◌, ◌++◌, length, None}
use Rattle.al_expr_grammar.specs.Lexeme.{Lexeme, kinds}
use Rattle.al_expr_grammar.specs.Tree.{Tree}
use Rattle.al_expr_grammar.specs.Grammar.{IsTreeOf}
use Rattle.al_expr_grammar.specs.Table.{Fine, Early, Unexpected, verdict_of}
use Rattle.al_expr_grammar.specs.Refusal.{Spells, fault_of_content}
use Rattle.al_expr_grammar.specs.Building.{tree_of_content}

-- A list with an unexpected token, or that ends too early, spells no tree.
abbrev pub FaultsSpellNothing : Type 0
FaultsSpellNothing = (ts : List Lexeme) (t : Tree) → IsTreeOf t ts
    → (verdict_of (kinds ts) ≢ Early) × ((n : ℕ) → verdict_of (kinds ts) ≢ Unexpected n)

-- Nor does any list that begins with the tokens up to and including that one.
abbrev pub NoWayOn : Type 0
NoWayOn = (front back other : List Lexeme) (x : Lexeme) (t : Tree) →
    verdict_of (kinds (front ++ x ∷ back)) ≡ Unexpected (length (x ∷ back))
    → IsTreeOf t (front ++ x ∷ other) → ⊥

-- No list spells two trees.
abbrev pub OneTree : Type 0
OneTree = (ts : List Lexeme) (t u : Tree) → IsTreeOf t ts → IsTreeOf u ts → t ≡ u

-- A list without a fault spells a tree.
abbrev pub SomeTree : Type 0
SomeTree = (ts : List Lexeme) → verdict_of (kinds ts) ≡ Fine → (t : Tree) × IsTreeOf t ts

-- The tree of a content without a fault is the one that the content spells.
abbrev pub TreeIsSpelled : Type 0
TreeIsSpelled = (content : List ℕ) (t : Tree) → fault_of_content content ≡ None
    → (tree_of_content content ≡ t) ↔ Spells content t
