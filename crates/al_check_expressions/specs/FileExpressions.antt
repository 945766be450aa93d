-- The faults of all expressions of a file.
use Rattle.std.specs.Prelude.{◌≡◌, ℕ, List, [], false}
use Rattle.std.specs.List.{flat_map}
use Rattle.al_base.specs.declared.faults.Fault.{Fault}
use Rattle.al_scalar.specs.Scalar.{text_of}
use Rattle.al_tree.specs.Faults.{has_chunk}
use Rattle.al_expr_names.specs.Scopes.{Scope}
use Rattle.al_yaml_tree.specs.Node.{Node}
use Rattle.al_yaml_tree.specs.Spans.{AreFrom, IsLaid}
use Rattle.al_tree.specs.declared.files.FileKind.{FileKind}
use Rattle.al_check_places.specs.Places.{Place, places_of}
use Rattle.al_check_contexts.specs.Contexts.{OutputNames}
use Rattle.al_check_contexts.specs.Scopes.{scope_at}
use Rattle.al_check_expressions.specs.Contents.{place_faults}
use Rattle.al_expr_grammar.specs.Inside.{AllLie}

-- the faults at a place of the file, given what expressions can refer to there
abbrev pub expression_faults_at : FileKind → OutputNames → Node → Place → List Fault
expression_faults_at kind known root p = place_faults (scope_at kind known root p) p

abbrev pub expression_faults : FileKind → OutputNames → Node → List Fault
expression_faults kind known root =
    flat_map (expression_faults_at kind known root) (places_of kind root)

-- the faults lie in the file if the tree's nodes do, and each byte of its texts comes from there
abbrev pub ExpressionFaultsLie : Type 0
ExpressionFaultsLie =
    (size : ℕ) (kind : FileKind) (known : OutputNames) (root : Node) → IsLaid size root
    → AreFrom size root →
    AllLie size (expression_faults kind known root)

-- a text without `${{` that isn't a condition has no fault, wherever it is, so it needs no place
abbrev pub PlainTextsAreRight : Type 0
PlainTextsAreRight =
    (scope : Scope) (p : Place) → p.is_condition ≡ false → has_chunk (text_of p.word) ≡ false
    → place_faults scope p ≡ []
