use Rattle.std.proofs.Common.{◌<◌, ◌∙◌, length, rules, sym}
use Rattle.std.proofs.lemmas.List.{take_rest}
use Rattle.al_expr_grammar.proofs.Chunking.{opening_later}
use Rattle.al_expr_grammar.proofs.chunk.before_opening.Goals as goal

pub loop-i-preserved : goal.loop-i-preserved
loop-i-preserved c =
    let room : c.loop-i.i < length c.args.bytes.now = search rules in
    let shut = rw take_rest at c.opens.ensures in
    c.loop-i.invariant ∙ opening_later c.args.bytes.now c.loop-i.i room (sym shut ∙ search rules)
