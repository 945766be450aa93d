use Rattle.std.specs.Io.KnownBytes.{Keeps}
use Rattle.al_cli.proofs.waiting.WaitingInputRead.read.Given as goal

abbrev pub invariant-loop : goal.invariant-loop
invariant-loop g l = Keeps (g.R.Read.remaining l.fn.self.input) (g.R.Read.remaining l.self.input)
