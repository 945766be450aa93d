use Rattle.std.proofs.Common.{refl}
use Rattle.std.proofs.lemmas.Result.{err_from_is_err_and}
use Rattle.al_scalar.specs.Places.{lines_at, text_at}
use Rattle.al_scalar.specs.Plain.{flow}
use Rattle.al_scalar.specs.Scalar.{scalar_at}
use Rattle.al_scalar.proofs.RestLemmas.{start-at}
use Rattle.al_yaml_tree.specs.Flow.{flow_content}
use Rattle.al_yaml_parts.specs.Reads.{state_of}
use Rattle.al_yaml_parts.proofs.RunLemmas.{run-broken, run-fails}
use Rattle.al_yaml_parts.proofs.ReadLemmas.{scalar-stops, scalar-ok}
use Rattle.al_yaml_parts.proofs.FlowNodeLemmas.{right-bracket}
use Rattle.al_yaml_parts.proofs.flow_nodes.read_flow_content.Goals as goal

pub returns-then-is_flow_start-clause-is : goal.returns-then-is_flow_start-clause-is
unfolding flow_content
returns-then-is_flow_start-clause-is c = λ depth slot col.
    rw (← right-bracket (text_at c.args.file.now.bytes.now c.args.at) c.if-is_flow_start.ensures.value, ← c.requires.plain, ← c.if-is_flow_start.ensures.value) refl

pub returns-in-Some-clause-is : goal.returns-in-Some-clause-is
unfolding flow_content
returns-in-Some-clause-is c = λ depth slot col. rw (c.at.ensures.is, ← c.in-Some.ensures, start-at c.args.file.now.bytes.now c.args.at c.requires.inside) (run-fails _ _ _)

pub returns-in_err-start-clause-is : goal.returns-in_err-start-clause-is
unfolding flow_content
returns-in_err-start-clause-is c = λ depth slot.
    let here = start-at c.args.file.now.bytes.now c.args.at c.requires.inside in
    let p = err_from_is_err_and c.from_residual.result c.from_residual.ensures.1 in
    rw (p.1, p.2) (λ col. rw (← c.in_default.ensures, ← c.requires.plain, ← c.if-is_flow_start.ensures.value, here) (run-broken _ _ _ _ _ _ c.in_err-start.ensures.limits))

pub returns-in_err-read-clause-is : goal.returns-in_err-read-clause-is
unfolding flow_content
returns-in_err-read-clause-is c = λ depth slot.
    let here = start-at c.args.file.now.bytes.now c.args.at c.requires.inside in
    let p = err_from_is_err_and c.from_residual-in_err-read.result c.from_residual-in_err-read.ensures.1 in
    rw (p.1, p.2) (λ col. rw (← c.in_default.ensures, ← c.requires.plain, ← c.if-is_flow_start.ensures.value, here)
    (scalar-stops (scalar_at flow (lines_at c.args.file.now.bytes.now c.args.at)) (state_of c.args.state.now) (state_of c.start.new.self)
    c.args.at c.in_ok-start.ensures.limits c.in_ok-start.ensures.state c.in_err-read.field-0.0 c.in_err-read.ensures.is))

pub returns-clause-is : goal.returns-clause-is
unfolding flow_content
returns-clause-is c = λ depth slot col.
    rw (← c.in_default.ensures, ← c.requires.plain, ← c.if-is_flow_start.ensures.value, start-at c.args.file.now.bytes.now c.args.at c.requires.inside)
    (scalar-ok (scalar_at flow (lines_at c.args.file.now.bytes.now c.args.at)) (state_of c.args.state.now) (state_of c.start.new.self)
    c.args.at c.in_ok-start.ensures.limits c.in_ok-start.ensures.state c.args.file.now.bytes.now c.in_ok-read.read c.scalar_part.result
    c.in_ok-read.ensures.is c.scalar_part.ensures.node c.scalar_part.ensures.end c.scalar_part.ensures.next)
