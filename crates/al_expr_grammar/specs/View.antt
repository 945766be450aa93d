-- What contracts see of the program's expressions.
use Rattle.al_expr_grammar.specs.declared.ast.Expr.{Expr}
use Rattle.al_expr_grammar.specs.declared.ast.PathStep.{PathStep}
use Rattle.al_expr_grammar.specs.declared.ast.Operand.{Operand}
use Rattle.al_expr_grammar.specs.declared.ast.Expr.TheOpen as layer
use Rattle.al_expr_grammar.specs.declared.ast.Expr.TheFolds.{fold-Expr, fold-PathStep, fold-Operand}
use Rattle.al_expr_grammar.specs.Tree.{Sign, sign, Tree, Constant, Number, Text, Named}
use Rattle.al_expr_grammar.specs.Tree.{Call, Group, Negated, Path, Chain, StepTree, Property}
use Rattle.al_expr_grammar.specs.Tree.{All, Index, steps_of, operands_of, arguments_of}

abbrev pub expr_layer : layer.Expr-F Tree StepTree (Sign × Tree) → Tree
expr_layer (layer.Keyword w s) = Constant w s
expr_layer (layer.Number w) = Number w.text.now w.span
expr_layer (layer.Text w) = Text w.text.now w.span
expr_layer (layer.Name w) = Named w.text.now w.span
expr_layer (layer.Call w as' e) = Call w.text.now w.span (arguments_of as'.items) e
expr_layer (layer.Group t s e) = Group t.value s e
expr_layer (layer.Not s t) = Negated s t.value
expr_layer (layer.Path t ss) = Path t.value (steps_of ss.items)
expr_layer (layer.Chain t os) = Chain t.value (operands_of os.items)

abbrev pub step_layer : layer.PathStep-F Tree StepTree (Sign × Tree) → StepTree
step_layer (layer.Property d w) = Property d w.text.now w.span
step_layer (layer.All a b) = All a b
step_layer (layer.Index a t b) = Index a t b

abbrev pub operand_layer : layer.Operand-F Tree StepTree (Sign × Tree) → (Sign × Tree)
operand_layer o = (sign o.operator o.at, o.expr)

unfoldable pub expr_view : Expr → Tree
expr_view = fold-Expr Tree StepTree (Sign × Tree) expr_layer step_layer operand_layer

unfoldable pub step_of : PathStep → StepTree
step_of = fold-PathStep Tree StepTree (Sign × Tree) expr_layer step_layer operand_layer

unfoldable pub operand_of : Operand → (Sign × Tree)
operand_of = fold-Operand Tree StepTree (Sign × Tree) expr_layer step_layer operand_layer
