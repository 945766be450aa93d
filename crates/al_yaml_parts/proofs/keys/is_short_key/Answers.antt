use Rattle.std.proofs.Common.{arith}
use Rattle.std.proofs.lemmas.Grind.{common_steps}
use Rattle.al_yaml_parts.proofs.KeyLemmas.{same_line-before, short-few}
use Rattle.al_yaml_parts.proofs.keys.is_short_key.Goals as goal

pub characters-requires-clause-line : goal.characters-requires-clause-line
characters-requires-clause-line c =
    rw c.span-end.ensures
    (same_line-before c.args.bytes.now c.args.at c.args.read.now.scalar.span.end c.args.read.now.next c.requires.inside.from c.requires.inside.end c.requires.inside.inside c.requires.line)

pub returns-then-end-at-le-LONGEST_KEY : goal.returns-then-end-at-le-LONGEST_KEY
returns-then-end-at-le-LONGEST_KEY c =
    let short = rw c.span-end.ensures at c.if-end-at-le-LONGEST_KEY.true in
    let few = short-few c.args.bytes.now c.args.at c.args.read.now.scalar.span.end c.requires.inside.from
    (omega (arith, c.requires.inside.end, c.requires.inside.inside)) (omega (arith, short)) in
    grind (arith, common_steps, few, short)
