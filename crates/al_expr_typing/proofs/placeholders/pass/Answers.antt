use Rattle.std.proofs.Common.{arith}
use Rattle.al_expr_typing.proofs.Indices.{too_large}
use Rattle.al_expr_typing.proofs.placeholders.pass.Goals as goal

pub returns-in-To-InIndex : goal.returns-in-To-InIndex
returns-in-To-InIndex c =
    let e = rw c.in-To-InIndex.field-0-is at c.in-To-InIndex.ensures in
    λ rest. rw (← e) (too_large c.in-To-InIndex.index c.args.used.now rest (omega arith))
