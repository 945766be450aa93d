use Rattle.std.specs.Io.KnownBytes.{Keeps}
use Rattle.al_cli.proofs.waiting.WaitingOutputWrite.write.Given as goal

abbrev pub invariant-loop : goal.invariant-loop
invariant-loop g l = Keeps (g.W.Write.contents l.fn.self.output) (g.W.Write.contents l.self.output)
