use Rattle.std.proofs.Common.{false, length}
use Rattle.al_expr_grammar.proofs.Inside.{tree_lies}
use Rattle.al_expr_typing.proofs.Inside.{meaning_lies}
use Rattle.al_expr_typing.proofs.law.all_lie_in_content.Goals as goal

pub returns : goal.returns
returns c content t sc s = meaning_lies (length content) t sc false 0 (tree_lies content s.tokens t s.reads s.derives)
