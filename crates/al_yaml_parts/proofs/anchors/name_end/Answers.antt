use Rattle.std.proofs.Common.{arith}
use Rattle.al_yaml_parts.proofs.NameLemmas.{name-inside, name-more, lines-more}
use Rattle.al_yaml_parts.proofs.anchors.name_end.Goals as goal

pub name-preserved : goal.name-preserved
name-preserved c =
    let bytes = c.args.bytes.now in
    let more = c.name-test.ensures in record {
      from = omega (arith, c.name.invariant.from);
      inside = omega (arith, name-inside bytes c.name.i c.name.invariant.inside more);
      cells = name-more bytes c.name.i c.name.invariant.inside more c.args.at c.name.invariant.from c.name.invariant.cells;
      lines = lines-more bytes c.name.i c.name.invariant.inside more c.args.at c.name.invariant.from c.name.invariant.lines;
    }
