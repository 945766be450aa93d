use Rattle.std.proofs.Common.{◌≤◌, ◌-◌, length, map}
use Rattle.std.specs.Prelude.{All}
use Rattle.al_expr_grammar.specs.Chunks.{span_of_chunk, IsCutFrom}
use Rattle.al_expr_grammar.proofs.Chunking.{AreRead}
use Rattle.al_expr_grammar.proofs.chunk.chunks.Given as goal

abbrev pub invariant-text : goal.invariant-text
invariant-text l = record {
  within : l.at ≤ length l.text;
  few : length (map span_of_chunk l.found.items) ≤ l.at;
  contents : All (IsCutFrom l.text) l.found.items;
  so_far : AreRead l.text (map span_of_chunk l.found.items) l.at;
}

abbrev pub decreases-text : goal.decreases-text
decreases-text l = length l.text - l.at
