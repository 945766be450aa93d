-- The views of an expression's forms, as rewrite rules.
use Rattle.std.proofs.Common.{◌≡◌}
use Rattle.al_expr_grammar.specs.declared.ast.Operand.{Operand}
use Rattle.al_expr_grammar.specs.Tree.{sign}
use Rattle.al_expr_grammar.specs.View.{expr_view, operand_of}
use Rattle.al_expr_grammar.proofs.Trees.{tree_of-Keyword, tree_of-Number, tree_of-Text, tree_of-Name, tree_of-Call, tree_of-Group, tree_of-Not}
use Rattle.al_expr_grammar.proofs.Trees.{tree_of-Path, tree_of-Chain, step_of-Property, step_of-All, step_of-Index, operand_of-made}

pub ruleset tree_views = (tree_of-Keyword, tree_of-Number, tree_of-Text, tree_of-Name, tree_of-Call, tree_of-Group, tree_of-Not, tree_of-Path, tree_of-Chain)

pub ruleset step_views = (step_of-Property, step_of-All, step_of-Index)

pub operand_view : (o : Operand) → operand_of o ≡ (sign o.operator o.at, expr_view o.expr)
unfolding operand_of expr_view
operand_view o = operand_of-made (record { operator = o.operator; at = o.at; expr = o.expr })
