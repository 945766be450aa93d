-- The view of each form of an expression.
use Rattle.std.proofs.Common.{◌≡◌, map, sym, ap, ◌∙◌}
use Rattle.std.specs.Global.{Global}
use Rattle.std.specs.Prelude.{Box, Vec}
use Rattle.al_base.specs.declared.faults.Span.{Span}
use Rattle.al_expr_grammar.specs.declared.token.Keyword.{Keyword}
use Rattle.al_expr_grammar.specs.declared.ast.Word.{Word}
use Rattle.al_expr_grammar.specs.declared.ast.Expr as code
use Rattle.al_expr_grammar.specs.declared.ast.Expr.{Expr}
use Rattle.al_expr_grammar.specs.declared.ast.PathStep.{PathStep}
use Rattle.al_expr_grammar.specs.declared.ast.PathStep as code_step
use Rattle.al_expr_grammar.specs.declared.ast.Operand.{Operand}
use Rattle.al_expr_grammar.specs.declared.ast.Expr.TheOpen as layer
use Rattle.al_expr_grammar.specs.declared.ast.Expr.TheViews.{roll-Expr, roll-Operand}
use Rattle.al_expr_grammar.specs.declared.ast.Expr.TheVariants.{rolls-Keyword, rolls-Number, rolls-Text, rolls-Name, rolls-Call, rolls-Group, rolls-Not, rolls-Path, rolls-Chain}
use Rattle.al_expr_grammar.specs.declared.ast.PathStep.TheVariants.{rolls-Property, rolls-All, rolls-Index}
use Rattle.al_expr_grammar.specs.declared.ast.Expr.TheFolds.{fold-roll-Expr, fold-roll-PathStep, fold-roll-Operand}
use Rattle.al_expr_grammar.specs.Tree.{Sign, sign, Tree, Constant, Number, Text, Named, Call, Group, Negated, Path, Chain, StepTree, Property}
use Rattle.al_expr_grammar.specs.Tree.{All, Index, steps_of, operands_of, arguments_of}
use Rattle.al_expr_grammar.specs.View.{expr_layer, step_layer, operand_layer, expr_view, step_of, operand_of}

tree_rolled : (e : layer.Expr-F Expr PathStep Operand) → expr_view (roll-Expr e) ≡ expr_layer (code.map-Expr Expr PathStep Operand Tree StepTree (Sign × Tree) expr_view step_of operand_of e)
unfolding expr_view step_of operand_of
tree_rolled e = fold-roll-Expr Tree StepTree (Sign × Tree) expr_layer step_layer operand_layer e

pub tree_of-Keyword : (w : Keyword) (s : Span) → expr_view (code.Keyword w s) ≡ Constant w s
tree_of-Keyword w s = ap expr_view (sym (rolls-Keyword w s)) ∙ tree_rolled (layer.Keyword w s)

pub tree_of-Number : (w : Word) → expr_view (code.Number w) ≡ Number w.text.now w.span
tree_of-Number w = ap expr_view (sym (rolls-Number w)) ∙ tree_rolled (layer.Number w)

pub tree_of-Text : (w : Word) → expr_view (code.Text w) ≡ Text w.text.now w.span
tree_of-Text w = ap expr_view (sym (rolls-Text w)) ∙ tree_rolled (layer.Text w)

pub tree_of-Name : (w : Word) → expr_view (code.Name w) ≡ Named w.text.now w.span
tree_of-Name w = ap expr_view (sym (rolls-Name w)) ∙ tree_rolled (layer.Name w)

pub tree_of-Call : (w : Word) (v : Vec Expr Global) (e : Span) → expr_view (code.Call w v e) ≡ Call w.text.now w.span (arguments_of (map expr_view v.items)) e
tree_of-Call w v e = ap expr_view (sym (rolls-Call w v e)) ∙ tree_rolled (layer.Call w v e)

pub tree_of-Group : (b : Box Expr Global) (s e : Span) → expr_view (code.Group b s e) ≡ Group (expr_view b.value) s e
tree_of-Group b s e = ap expr_view (sym (rolls-Group b s e)) ∙ tree_rolled (layer.Group b s e)

pub tree_of-Not : (s : Span) (b : Box Expr Global) → expr_view (code.Not s b) ≡ Negated s (expr_view b.value)
tree_of-Not s b = ap expr_view (sym (rolls-Not s b)) ∙ tree_rolled (layer.Not s b)

pub tree_of-Path : (b : Box Expr Global) (v : Vec PathStep Global) → expr_view (code.Path b v) ≡ Path (expr_view b.value) (steps_of (map step_of v.items))
tree_of-Path b v = ap expr_view (sym (rolls-Path b v)) ∙ tree_rolled (layer.Path b v)

pub tree_of-Chain : (b : Box Expr Global) (v : Vec Operand Global) → expr_view (code.Chain b v) ≡ Chain (expr_view b.value) (operands_of (map operand_of v.items))
tree_of-Chain b v = ap expr_view (sym (rolls-Chain b v)) ∙ tree_rolled (layer.Chain b v)

pub step_of-Property : (d : Span) (w : Word) → step_of (code_step.Property d w) ≡ Property d w.text.now w.span
unfolding step_of
step_of-Property d w = ap step_of (sym (rolls-Property d w)) ∙ fold-roll-PathStep Tree StepTree (Sign × Tree) expr_layer step_layer operand_layer (layer.Property d w)

pub step_of-All : (a b : Span) → step_of (code_step.All a b) ≡ All a b
unfolding step_of
step_of-All a b = ap step_of (sym (rolls-All a b)) ∙ fold-roll-PathStep Tree StepTree (Sign × Tree) expr_layer step_layer operand_layer (layer.All a b)

pub step_of-Index : (a : Span) (e : Expr) (b : Span) → step_of (code_step.Index a e b) ≡ Index a (expr_view e) b
unfolding step_of expr_view
step_of-Index a e b = ap step_of (sym (rolls-Index a e b)) ∙ fold-roll-PathStep Tree StepTree (Sign × Tree) expr_layer step_layer operand_layer (layer.Index a e b)

pub operand_of-made : (o : layer.Operand-F Expr PathStep Operand) → operand_of (roll-Operand o) ≡ (sign o.operator o.at, expr_view o.expr)
unfolding operand_of expr_view
operand_of-made o = fold-roll-Operand Tree StepTree (Sign × Tree) expr_layer step_layer operand_layer o
