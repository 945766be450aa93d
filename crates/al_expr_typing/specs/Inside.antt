-- The faults of an expression's meaning lie in its content.
use Rattle.std.specs.Prelude.{ℕ, List, length}
use Rattle.al_expr_grammar.specs.Inside.{AllLie}
use Rattle.al_expr_grammar.specs.Refusal.{Spells}
use Rattle.al_expr_grammar.specs.Tree.{Tree}
use Rattle.al_expr_names.specs.Scopes.{Scope}
use Rattle.al_expr_typing.specs.Meaning.{faults_found, meaning_of}

abbrev pub MeaningFaultsLie : Type 0
MeaningFaultsLie =
    (content : List ℕ) (t : Tree) (sc : Scope) → Spells content t
    → AllLie (length content) (faults_found (meaning_of sc t))
