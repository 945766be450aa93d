use Rattle.std.proofs.Common.{arith}
use Rattle.al_yaml_parts.proofs.KeyLemmas.{characters-done, line-goes, characters-own, characters-same}
use Rattle.al_yaml_parts.proofs.lines.characters.Goals as goal
use Rattle.al_yaml_parts.proofs.lines.characters.Goals.{then-is_char_start, else-is_char_start}

pub loop-i-preserved : goal.loop-i-preserved
loop-i-preserved c =
    elim c.if-is_char_start.branch [
      | then-is_char_start w ↦ record {
        few = omega (arith, w.count-is, c.loop-i.invariant.few);
        line = line-goes c.args.bytes.now c.args.from c.loop-i.i c.args.to c.requires.inside c.loop-i-test.true c.requires.line c.loop-i.invariant.line;
        characters = rw w.count-is (characters-own c.args.bytes.now c.args.from c.loop-i.i c.args.to c.requires.inside c.loop-i-test.true
            c.requires.line c.loop-i.invariant.line c.loop-i.count w.if-is_char_start.ensures c.loop-i.invariant.characters);
      }
      | else-is_char_start w ↦ record {
        few = omega (arith, w.count-is, c.loop-i.invariant.few);
        line = line-goes c.args.bytes.now c.args.from c.loop-i.i c.args.to c.requires.inside c.loop-i-test.true c.requires.line c.loop-i.invariant.line;
        characters = rw w.count-is (characters-same c.args.bytes.now c.args.from c.loop-i.i c.args.to c.requires.inside c.loop-i-test.true
            c.requires.line c.loop-i.invariant.line c.loop-i.count w.if-is_char_start.ensures c.loop-i.invariant.characters);
      }
    ]

pub returns-clause-is : goal.returns-clause-is
returns-clause-is c = characters-done c.args.bytes.now c.args.from c.loop-i.i c.args.to c.requires.inside (omega arith) c.loop-i.count c.loop-i.invariant.characters
