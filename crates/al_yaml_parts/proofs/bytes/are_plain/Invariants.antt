use Rattle.std.specs.Prelude.{IsTrue}
use Rattle.al_yaml_parts.specs.Private.PlainBytes.{ArePlain}
use Rattle.al_yaml_parts.proofs.bytes.are_plain.Given as goal

abbrev pub invariant-loop-at : goal.invariant-loop-at
invariant-loop-at l = IsTrue l.all → ArePlain l.bytes l.at
