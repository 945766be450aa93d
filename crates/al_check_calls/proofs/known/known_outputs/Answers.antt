use Rattle.std.proofs.Common.{◌++◌, ap, arith, map}
use Rattle.al_check_contexts.specs.Answered.{call_outputs}
use Rattle.al_check_calls.specs.Private.KnownLists.{lists_of}
use Rattle.al_check_calls.proofs.KnownLists.{all_known, one_known}
use Rattle.al_check_calls.proofs.known.known_outputs.Goals as goal

pub loop-one-init : goal.loop-one-init
loop-one-init c = λ naming named. (
  c.new-lists.ensures naming,
  λ more. ap (map (call_outputs (lists_of c.new-lists.result ++ more))) c.new-answers.ensures.items,
)

pub loop-one-preserved : goal.loop-one-preserved
loop-one-preserved c =
    one_known c.args.answered.now c.loop-one.one-index c.one-item.result c.loop-one.lists c.position.new.self c.loop-one.answers.items c.push.new.self.items
    c.in_ok-names.names c.loop-one-test.true c.one-item.is c.in_ok-names.ensures c.in_ok-push.ensures.items c.loop-one.invariant

pub returns : goal.returns
returns c =
    all_known c.args.answered.now c.loop-one.one-index c.loop-one.lists c.loop-one.answers.items (omega (arith, c.loop-one-test.false)) c.requires
    c.loop-one.invariant
