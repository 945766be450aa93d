use Rattle.al_expr_grammar.proofs.Inside.{chunks_lie, content_fault_lies, extent_lies, token_fault_lies, tree_lies}
use Rattle.std.proofs.Common.{length}
use Rattle.al_expr_grammar.proofs.law.all_lie_inside.Goals as goal

pub returns : goal.returns
returns c = record {
  chunks = λ text. (chunks_lie text).0;
  end = λ text. (chunks_lie text).1;
  tokens = token_fault_lies;
  content = content_fault_lies;
  extent = λ content t s. extent_lies (length content) t (tree_lies content s.tokens t s.reads s.derives);
}
