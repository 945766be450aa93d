use Rattle.al_session.specs.declared.changes.Change.TheVariants.{Put}
use Rattle.al_session.proofs.Replies.{reply_is}
use Rattle.al_session.proofs.changes.apply_change.Goals as goal

pub returns-in-Put : goal.returns-in-Put
returns-in-Put g c =
    let e = c.put.ensures in
    rw c.in-Put.is (reply_is g.L.Iface.PartialEq.eq g.L.Lint.meaning c.args.session.now c.put.new.self (Put c.in-Put.path c.in-Put.bytes) c.put.result
    e.accepted e.folder e.rechecked e.meter e.refused e.as_before e.no_check e.few_checks e.no_read e.reads)
