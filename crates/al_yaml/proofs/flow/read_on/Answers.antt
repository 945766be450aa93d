use Rattle.std.proofs.Common.{length, refl, sym, ap, subst, arith}
use Rattle.std.proofs.lemmas.Result.{err_from_is_err_and}
use Rattle.al_yaml.specs.Private.FlowFrames.{AreOpen, open_of}
use Rattle.al_yaml_parts.specs.Reads.{state_of}
use Rattle.al_yaml.proofs.FlowLemmas.{collection-broken}
use Rattle.al_yaml.proofs.FlowLoop.{frames-length, inside-stops, opens-broken, opens-keeps, step-keeps}
use Rattle.al_yaml.proofs.flow.read_on.Goals as goal

pub returns-in_err-step-clause-is : goal.returns-in_err-step-clause-is
returns-in_err-step-clause-is c = λ first whole deep now.
    let bytes = c.args.file.now.bytes.now in
    let outer = c.args.progress.now.stack.flows in
    let p = err_from_is_err_and c.from_residual.result c.from_residual.ensures.1 in
    rw (p.1, p.2) (inside-stops bytes first whole outer (state_of c.args.progress.now.state) c.args.place.opening (open_of c.args.has)
    c.args.place.at c.args.place.depth (omega (arith, deep, frames-length bytes outer)) now c.requires.at c.in_err-step.field-0.0 c.in_err-step.ensures.is)

pub returns-in-AfterNode-clause-is : goal.returns-in-AfterNode-clause-is
returns-in-AfterNode-clause-is c = λ first whole deep now.
    let bytes = c.args.file.now.bytes.now in
    let outer = c.args.progress.now.stack.flows in
    let found = rw c.in-AfterNode.is at c.in_ok-step.ensures.is in
    let within = rw c.in-AfterNode.is at c.in_ok-step.ensures.within in
    step-keeps bytes first whole outer (state_of c.args.progress.now.state) c.args.place.opening (open_of c.args.has) c.args.place.at
    c.args.place.depth (omega (arith, deep, frames-length bytes outer)) now (state_of c.read_inside.new.state) (open_of c.read_inside.new.has)
    c.in-AfterNode.next c.requires.at found within.0

pub returns-in-AfterNode-clause-within : goal.returns-in-AfterNode-clause-within
returns-in-AfterNode-clause-within c =
    let within = rw c.in-AfterNode.is at c.in_ok-step.ensures.within in
    record {
      blocks = refl;
      outer = c.requires.outer;
      room = omega (arith, c.requires.depth);
      more = omega arith;
      opening = c.requires.opening;
      next = within;
    }

pub returns-in_err-start-in-Opens-clause-is : goal.returns-in_err-start-in-Opens-clause-is
returns-in_err-start-in-Opens-clause-is c = λ first whole deep now.
    let bytes = c.args.file.now.bytes.now in
    let outer = c.args.progress.now.stack.flows in
    let n = state_of c.read_inside.new.state in
    let found = rw c.in-Opens.is at c.in_ok-step.ensures.is in
    let within = rw c.in-Opens.is at c.in_ok-step.ensures.within in
    let p = err_from_is_err_and c.from_residual-in_err-start-in-Opens.result c.from_residual-in_err-start-in-Opens.ensures.1 in
    rw (p.1, p.2) (opens-broken bytes first whole outer (state_of c.args.progress.now.state) c.args.place.opening
    (open_of c.args.has) c.args.place.at c.args.place.depth (omega (arith, deep, frames-length bytes outer)) now n c.in-Opens.inner
    c.read_inside.new.has found within.from within.inside c.in_err-start-in-Opens.field-0.0
    (λ bound. collection-broken bound c.args.place.depth n bytes c.in-Opens.inner.at (omega (arith, within.inside))
    c.in_err-start-in-Opens.field-0.0 c.in_err-start-in-Opens.ensures.limits))

pub returns-in_ok-push_flow-in-Opens-clause-is : goal.returns-in_ok-push_flow-in-Opens-clause-is
returns-in_ok-push_flow-in-Opens-clause-is c = λ first whole deep now.
    let bytes = c.args.file.now.bytes.now in
    let outer = c.args.progress.now.stack.flows in
    let b = c.in-Opens.inner in
    let found = rw c.in-Opens.is at c.in_ok-step.ensures.is in
    let within = rw c.in-Opens.is at c.in_ok-step.ensures.within in
    let begun = c.open_at in
    rw (c.in_ok-push_flow-in-Opens.ensures.flows, begun.ensures.within.opening)
    (opens-keeps bytes first whole outer (state_of c.args.progress.now.state) c.args.place.opening
    (open_of c.args.has) c.args.place.at c.args.place.depth (omega (arith, deep, frames-length bytes outer)) now
    (state_of c.read_inside.new.state) b c.read_inside.new.has found within.from within.inside (state_of c.start.new.self)
    (open_of begun.result.has) begun.result.next begun.ensures.within.next.0
    (begun.ensures.is c.args.place.depth (state_of c.read_inside.new.state) (state_of c.start.new.self)
    c.in_ok-start-in-Opens.ensures.limits c.in_ok-start-in-Opens.ensures.state))

pub returns-in_ok-push_flow-in-Opens-clause-within : goal.returns-in_ok-push_flow-in-Opens-clause-within
returns-in_ok-push_flow-in-Opens-clause-within c =
    let size = length c.args.file.now.bytes.now in
    let within = rw c.in-Opens.is at c.in_ok-step.ensures.within in
    record {
      blocks = c.push_flow.ensures.blocks;
      outer = subst (AreOpen size) (sym c.in_ok-push_flow-in-Opens.ensures.flows) (c.requires.opening, within.inside, c.requires.outer);
      room = omega (arith, ap length c.in_ok-push_flow-in-Opens.ensures.flows, c.in_ok-start-in-Opens.ensures.depth);
      more = omega (arith, ap length c.in_ok-push_flow-in-Opens.ensures.flows);
      opening = omega (arith, c.open_at.ensures.within.opening, within.inside);
      next = (omega (arith, within.from, c.open_at.ensures.within.next.0), c.open_at.ensures.within.next.1);
    }
