use Rattle.std.proofs.Common.{arith}
use Rattle.al_cli.proofs.Turns.{call_at}
use Rattle.al_cli.proofs.gathering.Candidates.add_calls.Goals as goal

pub add-requires-clause-called : goal.add-requires-clause-called
add-requires-clause-called c =
    let called = call_at c.args.files.now c.args.number c.loop-call.call-index c.calls-call-items.result.now c.call-item.result _
    c.calls-call-items.ensures (omega (arith, c.loop-call-test.true)) c.call-item.is in
    (rw c.in-Only.is at called).0

pub add-requires-in-FirstOf-clause-called : goal.add-requires-in-FirstOf-clause-called
add-requires-in-FirstOf-clause-called c =
    let called = call_at c.args.files.now c.args.number c.loop-call.call-index c.calls-call-items.result.now c.call-item.result _
    c.calls-call-items.ensures (omega (arith, c.loop-call-test.true)) c.call-item.is in
    (rw c.in-FirstOf.is at called).0

pub add-requires-in-FirstOf-2-clause-called : goal.add-requires-in-FirstOf-2-clause-called
add-requires-in-FirstOf-2-clause-called c =
    let called = call_at c.args.files.now c.args.number c.loop-call.call-index c.calls-call-items.result.now c.call-item.result _
    c.calls-call-items.ensures (omega (arith, c.loop-call-test.true)) c.call-item.is in
    (rw c.in-FirstOf.is at called).1.0
