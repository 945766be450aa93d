use Rattle.std.proofs.Common.{◌∷◌, map, refl, sym}
use Rattle.std.proofs.lemmas.List.{map-append}
use Rattle.al_expr_grammar.specs.Lexeme.{seen}
use Rattle.al_expr_grammar.proofs.Trees.{tree_of-Keyword, tree_of-Number, tree_of-Text, tree_of-Name, tree_of-Call, tree_of-Group, tree_of-Not, tree_of-Path}
use Rattle.al_expr_grammar.proofs.Trees.{tree_of-Chain, step_of-All, step_of-Index, operand_of-made}
use Rattle.al_expr_grammar.proofs.Rules.{constant_read, number_read, text_read, name_read, group_read, call_empty_read}
use Rattle.al_expr_grammar.proofs.Rules.{first_argument_refused, later_argument_read, later_argument_refused, call_closed, call_not_closed}
use Rattle.al_expr_grammar.proofs.Rules.{each_read, star_not_closed, index_read, index_refused, index_not_closed}
use Rattle.al_expr_grammar.proofs.Chains.{not_read, positive_read, bare_read, path_begins, path_goes_on, path_refused, with_steps}
use Rattle.al_expr_grammar.proofs.Chains.{at_next_level, chain_begins, chain_goes_on, chain_made, single_read, some_element, with_operands, either_way, refusal}
use Rattle.al_expr_grammar.proofs.parser.+parser.Goals as goal

pub primary-returns-in-Keyword : goal.primary-returns-in-Keyword
primary-returns-in-Keyword t c = rw (c.in-Some.ensures, c.in-Keyword.is, tree_of-Keyword) (constant_read _ _ _ _ _)

pub primary-returns-in-Number : goal.primary-returns-in-Number
primary-returns-in-Number t c =
    let w = c.word.ensures in
    rw (c.in-Some.ensures, c.in-Number.is, tree_of-Number, w.text, w.span) (number_read _ _ _ _)

pub primary-returns-in-Text : goal.primary-returns-in-Text
primary-returns-in-Text t c =
    let w = c.word-in-Text.ensures in
    rw (c.in-Some.ensures, c.in-Text.is, tree_of-Text, w.text, w.span) (text_read _ _ _ _)

pub primary-returns-in-None : goal.primary-returns-in-None
primary-returns-in-None t c =
    let w = c.word-in-None.ensures in
    rw (c.in-Some.ensures, c.in-Name.is, tree_of-Name, w.text, w.span) (name_read _ _ _ _ c.in-None.ensures)

pub group-returns : goal.group-returns
group-returns t c =
    let g = c.in_ok-close.ensures in
    let h = rw (g.0, g.1) at c.in_ok-expr.ensures in
    rw (c.requires, tree_of-Group, c.in_ok-boxed.ensures.ok) (group_read _ c.in_ok-inner.inner _ _ _ c.in_ok-inner.ensures _ _ _ _ h)

pub call-returns-in-Some : goal.call-returns-in-Some
call-returns-in-Some t c =
    let w = c.word-function.ensures in
    let g = c.in-Some.ensures in
    rw (c.requires.name, c.requires.bracket, g.0, g.1, tree_of-Call, w.text, w.span, c.new.ensures.items) (call_empty_read _ c.in_ok-inner.inner _ _ _ _ _ _ _ c.in_ok-inner.ensures)

pub call-returns-in_err-given : goal.call-returns-in_err-given
call-returns-in_err-given t c =
    rw (c.requires.name, c.requires.bracket) (refusal _ _ c.from_residual-in_err-given.result _ c.from_residual-in_err-given.ensures.1
    (c.in_err-given.ensures c.args.room c.args.name.text.now c.args.bracket.text.now c.args.name.span c.args.bracket.span c.in_ok-inner.ensures))

pub call-returns-in_err-close : goal.call-returns-in_err-close
call-returns-in_err-close t c =
    rw (c.requires.name, c.requires.bracket) (refusal _ _ c.from_residual-in_err-close.result _ c.from_residual-in_err-close.ensures.1
    (call_not_closed c.in_ok-inner.inner (map seen c.args.tokens.now) c.in_default.ensures c.args.room c.args.name.text.now c.args.bracket.text.now
    c.args.name.span c.args.bracket.span c.in_ok-inner.ensures _ _ _ c.in_ok-given.ensures c.in_err-close.ensures))

pub call-returns : goal.call-returns
call-returns t c =
    let w = c.word-function.ensures in
    let g = c.in_ok-close.ensures in
    let h = rw (g.0, g.1) at c.in_ok-given.ensures in
    rw (c.requires.name, c.requires.bracket, tree_of-Call, w.text, w.span)
    (call_closed _ _ c.in_default.ensures _ _ _ _ _ c.in_ok-inner.ensures _ _ _ _ h)

pub arguments-returns-in_err-first : goal.arguments-returns-in_err-first
arguments-returns-in_err-first t c =
    refusal _ _ c.from_residual.result _ c.from_residual.ensures.1 (first_argument_refused _ _ c.requires _ c.in_err-first.ensures)

pub arguments-returns-in_err-argument : goal.arguments-returns-in_err-argument
arguments-returns-in_err-argument t c =
    let g = c.in-Some.ensures in
    let h = rw (g.0, g.1) at c.list.invariant in
    refusal _ _ c.from_residual-in_err-argument.result _ c.from_residual-in_err-argument.ensures.1 (later_argument_refused _ _ c.requires _ _ _ _ _ h c.in_err-argument.ensures)

pub arguments-list-preserved : goal.arguments-list-preserved
arguments-list-preserved t c =
    let g = c.in-Some.ensures in
    let h = rw (g.0, g.1) at c.list.invariant in
    rw (c.in_ok-push-2.ensures.items, map-append) (later_argument_read _ _ _ _ _ _ _ _ h c.in_ok-argument.ensures)

pub postfix-returns-in_default : goal.postfix-returns-in_default
postfix-returns-in_default t c =
    let e = rw c.in_default.is at c.in_ok-first.ensures in
    bare_read _ _ _ _ c.in_ok-base.ensures e

pub postfix-walk-init : goal.postfix-walk-init
postfix-walk-init t c =
    let a = c.in_ok-push.ensures.items in
    let s = rw c.in-Some.is at c.in_ok-first.ensures in
    let b = path_goes_on _ _ _ _ _ _ (path_begins _ _) s in
    record {
      so_far = record { mid = _; base = c.in_ok-base.ensures; steps = rw (a, c.in_ok-steps.ensures.items) b };
      some = rw a (some_element _ _);
    }

pub postfix-walk-preserved : goal.postfix-walk-preserved
postfix-walk-preserved t c =
    let a = c.in_ok-push-2.ensures.items in
    let p = c.walk.invariant.so_far in
    let s = rw c.in-Some-2.is at c.in_ok-taken.ensures in
    let b = path_goes_on _ _ _ _ _ _ p.steps s in
    record { so_far = record { mid = p.mid; base = p.base; steps = rw (a, map-append) b }; some = rw a (some_element _ _) }

pub postfix-returns-in_err-taken : goal.postfix-returns-in_err-taken
postfix-returns-in_err-taken t c =
    let p = c.walk.invariant.so_far in
    refusal _ _ c.from_residual-in_err-taken.result _ c.from_residual-in_err-taken.ensures.1 (path_refused _ _ _ _ _ _ _ p.base p.steps c.in_err-taken.ensures)

pub postfix-returns : goal.postfix-returns
postfix-returns t c =
    let e = rw c.in_default-2.is at c.in_ok-taken.ensures in
    let p = c.walk.invariant.so_far in
    rw (tree_of-Path, c.in_ok-new.ensures.ok) (with_steps _ _ _ _ _ _ c.walk.invariant.some p.base p.steps e)

pub index-returns-in_err-close : goal.index-returns-in_err-close
index-returns-in_err-close t c =
    let g = c.in-Some.ensures in
    rw (c.requires, g.0, g.1) (refusal _ _ c.from_residual-in_err-close.result _ c.from_residual-in_err-close.ensures.1
    (star_not_closed c.args.room c.in_ok-inner.inner c.in-Some.field-0-0.text.now c.args.bracket.text.now c.in-Some.field-0-0.span
    c.args.bracket.span (map seen c.in-Some.left.now) _ c.in_ok-inner.ensures c.in_err-close.ensures))

pub index-returns-in-Some : goal.index-returns-in-Some
index-returns-in-Some t c =
    let f = c.in-Some.ensures in
    let g = c.in_ok-close.ensures in
    rw (c.requires, f.0, f.1, g.0, g.1, step_of-All) (each_read _ c.in_ok-inner.inner _ _ _ _ _ _ _ c.in_ok-inner.ensures)

pub index-returns-in_err-expr : goal.index-returns-in_err-expr
index-returns-in_err-expr t c =
    rw c.requires (refusal _ _ c.from_residual-in_err-expr.result _ c.from_residual-in_err-expr.ensures.1
    (index_refused c.args.room c.in_ok-inner.inner c.args.bracket.text.now c.args.bracket.span (map seen c.args.tokens.now) c.in_ok-inner.ensures _ c.in_default.ensures c.in_err-expr.ensures))

pub index-returns-in_err-close-2 : goal.index-returns-in_err-close-2
index-returns-in_err-close-2 t c =
    rw c.requires (refusal _ _ c.from_residual-in_err-close-2.result _ c.from_residual-in_err-close-2.ensures.1
    (index_not_closed c.args.room c.in_ok-inner.inner c.args.bracket.text.now c.args.bracket.span (map seen c.args.tokens.now)
    c.in_ok-inner.ensures _ _ _ c.in_ok-expr.ensures c.in_default.ensures c.in_err-close-2.ensures))

pub index-returns : goal.index-returns
index-returns t c =
    let g = c.in_ok-close-2.ensures in
    let h = rw (g.0, g.1) at c.in_ok-expr.ensures in
    rw (c.requires, step_of-Index) (index_read _ c.in_ok-inner.inner _ _ _ c.in_ok-inner.ensures _ _ _ _ c.in_default.ensures h)

pub unary-returns-in_default : goal.unary-returns-in_default
unary-returns-in_default t c =
    either_way _ _ _ _ c.postfix.result (λ x. positive_read c.args.room (map seen c.args.tokens.now) _ _) (λ e r. r) c.postfix.ensures

pub unary-returns : goal.unary-returns
unary-returns t c =
    let g = c.in-Some.ensures in
    rw (g.0, g.1, tree_of-Not, c.in_ok-new.ensures.ok) (not_read _ c.in_ok-within.within _ _ _ _ _ c.in_ok-within.ensures c.in_ok-expr.ensures)

pub operand-levels-preserved-in_default : goal.operand-levels-preserved-in_default
operand-levels-preserved-in_default t c = at_next_level _ _ _ _ _ (single_read _ _ _ _ _ c.levels.invariant c.in_default.ensures)

pub operand-levels-preserved : goal.operand-levels-preserved
operand-levels-preserved t c =
    let g = c.in-Some.ensures in
    at_next_level _ _ _ _ _ (chain_made _ _ _ _ _ _ _ _ _ g.0 g.2 c.in_ok-whole.ensures c.levels.invariant)

pub chain-operators-init : goal.chain-operators-init
chain-operators-init t c =
    let a = c.in_ok-push.ensures.items in
    let none = c.in_ok-more.ensures.items in
    let h = rw c.requires at (chain_begins c.level_of-level.result c.args.room (seen c.args.sign ∷ map seen c.args.tokens.now)) in
    let b = chain_goes_on _ _ _ _ _ _ _ _ _ _ h (sym c.level_of-level.ensures) c.in_ok-second.ensures in
    record { same = refl; so_far = rw (a, none, operand_of-made, c.requires) b; some = rw a (some_element _ _); stops = c.in_ok-second.ensures.stops }

pub chain-operators-preserved : goal.chain-operators-preserved
chain-operators-preserved t c =
    let a = c.in_ok-push-2.ensures.items in
    let g = c.in-Some.ensures in
    let h = rw (g.0, g.1) at c.operators.invariant.so_far in
    let b = chain_goes_on _ _ _ _ _ _ _ _ _ _ h g.2 c.in_ok-expr.ensures in
    record {
      same = c.operators.invariant.same;
      so_far = rw (a, map-append, operand_of-made) b;
      some = rw a (some_element _ _);
      stops = c.in_ok-expr.ensures.stops;
    }

pub chain-returns : goal.chain-returns
chain-returns t c =
    let e = c.level_of-level.ensures in
    let so_far = rw e at c.operators.invariant.so_far in
    let stops = rw e at c.operators.invariant.stops in
    let ends = rw e at c.in_default.ensures in
    λ all p. rw (tree_of-Chain, c.in_ok-new.ensures.ok, c.operators.invariant.same)
    (with_operands _ _ _ _ _ _ _ c.operators.invariant.some p so_far stops ends)
