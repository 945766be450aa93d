use Rattle.std.proofs.Common.{◌≡◌, ◌<◌, ◌∙◌, length, get_or, ap, not, rules, sym, true, false}
use Rattle.std.proofs.lemmas.List.{take_rest}
use Rattle.al_expr_grammar.specs.Tokens.{is_quote}
use Rattle.al_expr_grammar.proofs.Chunking.{closing_later, quotes_next}
use Rattle.al_expr_grammar.proofs.chunk.closing_position.Goals as goal
use Rattle.al_expr_grammar.proofs.chunk.closing_position.Goals.{then-b-eq39, else-b-eq39}

pub loop-i-preserved : goal.loop-i-preserved
loop-i-preserved c =
    let room : c.loop-i.i < length c.args.bytes.now = search rules in
    let quotes = quotes_next c.args.bytes.now c.loop-i.i room in
    let shut = rw (take_rest, c.loop-i.invariant.outside) at c.closes.ensures in
    let so_far = c.loop-i.invariant.so_far ∙ closing_later c.args.bytes.now c.loop-i.i room (sym shut ∙ search rules) in
    elim c.if-b-eq39.branch [
      | then-b-eq39 w ↦
          let quote : is_quote (get_or c.args.bytes.now c.loop-i.i 0) ≡ true = search rules in
          let is = w.outside-is in
          record { outside = is ∙ ap not c.loop-i.invariant.outside ∙ sym (rw quote at quotes); so_far = so_far }
      | else-b-eq39 w ↦
          let other : is_quote (get_or c.args.bytes.now c.loop-i.i 0) ≡ false = search rules in
          record { outside = w.outside-is ∙ c.loop-i.invariant.outside ∙ sym (rw other at quotes); so_far = so_far }
    ]
