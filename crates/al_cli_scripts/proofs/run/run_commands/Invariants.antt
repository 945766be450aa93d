use Rattle.std.proofs.Common.{◌≡◌, ◌<◌, ◌≤◌, length, max, List, ℕ}
use Rattle.al_base.specs.Counted.{count_after}
use Rattle.al_cli_scripts.specs.Runs.{PausesAfter}
use Rattle.al_cli_scripts.specs.Replies.{session}
use Rattle.al_cli_scripts.proofs.run.run_commands.Given as goal

abbrev pub invariant-loop-turn : goal.invariant-loop-turn
invariant-loop-turn g l = record {
  room : length l.run.piece.items ≡ 65536;
  kind : l.run.format ≡ l.fn.format;
  asked : max l.reader.largest_ask 65536 ≡ max l.fn.reader.largest_ask 65536;
  asks : 0 < l._turn → l.reader.largest_ask ≡ max l.fn.reader.largest_ask 65536;
  paused : (read : List ℕ) × (l._turn ≤ length read) × PausesAfter (session l.fn.format) l.fn.session.folder l.session.folder l.run.waiting.items
      (g.R.Read.remaining l.fn.reader.inner) (g.R.Read.remaining l.reader.inner) (g.W.Write.contents l.fn.writer.inner) (g.W.Write.contents l.writer.inner) read;
  turns : l.reader.turns ≡ count_after l.fn.reader.turns l._turn;
  reads_well : l.reader.failures ≡ l.fn.reader.failures;
  writes_well : l.writer.failures ≡ l.fn.writer.failures;
}
