use Rattle.std.proofs.Common.{inl, inr}
use Rattle.al_cli.proofs.program.run.Goals as goal

pub returns-in-Ok : goal.returns-in-Ok
returns-in-Ok g c = inr (c.in-Ok.words, c.in-Ok.ensures.words, c.in-Ok.ensures.right, c.run_words.ensures)

pub returns-in-Err : goal.returns-in-Err
returns-in-Err g c = inl (c.in-Err.usage, c.in-Err.ensures.usage, c.end_usage.ensures)
