use Rattle.std.proofs.Common.{arith}
use Rattle.std.proofs.lemmas.Grind.{common_steps}
use Rattle.al_expr_grammar.proofs.TextTails.{tail_is}
use Rattle.al_expr_grammar.proofs.lexer.text_len.Goals as goal

pub returns-then-closes-clause-value : goal.returns-then-closes-clause-value
returns-then-closes-clause-value c = rw (← (tail_is c.args.bytes.now)) (grind (arith, common_steps))

pub returns-then-closes-2-clause-value : goal.returns-then-closes-2-clause-value
returns-then-closes-2-clause-value c = rw (← (tail_is c.args.bytes.now)) (grind (arith, common_steps))

pub returns-else-closes-2-clause-value : goal.returns-else-closes-2-clause-value
returns-else-closes-2-clause-value c = rw (← (tail_is c.args.bytes.now)) (grind (arith, common_steps))
