use Rattle.std.proofs.Common.{◌≡◌, ◌-◌, length, take}
use Rattle.std.specs.List.{range_with_len}
use Rattle.std.specs.Prelude.{find}
use Rattle.al_expr_grammar.specs.Chunks.{closing_position, is_outside_quotes}
use Rattle.al_expr_grammar.proofs.Chunking.{closes_at}
use Rattle.al_expr_grammar.proofs.chunk.closing_position.Given as goal

abbrev pub invariant-loop-i : goal.invariant-loop-i
invariant-loop-i l = record {
  outside : l.outside ≡ is_outside_quotes (take l.i l.bytes);
  so_far : closing_position l.bytes ≡ find (closes_at l.bytes) (range_with_len l.i (length l.bytes - l.i));
}
