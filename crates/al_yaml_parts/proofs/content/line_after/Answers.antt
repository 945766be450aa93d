use Rattle.std.proofs.Common.{refl}
use Rattle.al_scalar.proofs.RestLemmas.{start-at}
use Rattle.al_yaml_parts.proofs.content.line_after.Goals as goal

pub returns-clause-is : goal.returns-clause-is
returns-clause-is c =
    let solid = c.blanks_end-solid in
    rw (c.new.ensures, ← c.if-ends_line.ensures, solid.ensures.dropped, start-at c.args.bytes.now solid.result solid.ensures.inside) refl
