use Rattle.std.proofs.Common.{sym, ◌∙◌, arith}
use Rattle.std.proofs.lemmas.List.{at_drop_all}
use Rattle.al_expr_typing.specs.Private.PlaceholderStates.{used_from}
use Rattle.al_expr_typing.proofs.placeholders.used_arguments.Goals as goal

pub returns-in-Outside : goal.returns-in-Outside
returns-in-Outside c =
    let d = at_drop_all (λ l. used_from c.loop-byte.state c.loop-byte.used.items l) c.as_bytes-byte-items.result.now c.loop-byte.byte-index (omega arith) in
    rw c.in-Outside.is at (sym d ∙ c.loop-byte.invariant.so_far)
