use Rattle.std.proofs.Common.{refl, ◌∙◌}
use Rattle.std.proofs.lemmas.Result.{err_from_is_err_and}
use Rattle.al_scalar.specs.ReadScalar.{read_of}
use Rattle.al_scalar.proofs.RestLemmas.{start-at}
use Rattle.al_yaml_tree.specs.Flow.{flow_key}
use Rattle.al_yaml_parts.proofs.FlowNodeLemmas.{key_with, with_colon}
use Rattle.al_yaml_parts.proofs.ReadLemmas.{given-ok, stops-given}
use Rattle.al_yaml_parts.proofs.RunLemmas.{run-broken, run-fails, run-gives, run-refused, run-start, run-stop}
use Rattle.al_yaml_parts.proofs.flow_nodes.read_flow_key.Goals as goal

pub returns-in-Some-clause-is : goal.returns-in-Some-clause-is
unfolding flow_key
returns-in-Some-clause-is c = λ depth col. rw (c.at.ensures.is, ← c.in-Some.ensures, start-at c.args.file.now.bytes.now c.args.at c.requires.inside) (run-fails _ _ _)

pub returns-then-has_no_name-clause-is : goal.returns-then-has_no_name-clause-is
unfolding flow_key
returns-then-has_no_name-clause-is c = λ depth col. rw (
  c.at-then-has_no_name.ensures.is,
  ← c.in_default.ensures,
  ← c.if-is_property.ensures,
  ← c.if-has_no_name.ensures,
  start-at c.args.file.now.bytes.now c.args.at c.requires.inside,
) (run-fails _ _ _)

pub returns-then-is_property-clause-is : goal.returns-then-is_property-clause-is
unfolding flow_key
returns-then-is_property-clause-is c = λ depth col. rw (
  c.at-then-is_property.ensures.is,
  ← c.in_default.ensures,
  ← c.if-is_property.ensures,
  ← c.if-has_no_name.ensures,
  start-at c.args.file.now.bytes.now c.args.at c.requires.inside,
) (run-fails _ _ _)

pub returns-then-is_flow_start-clause-is : goal.returns-then-is_flow_start-clause-is
unfolding flow_key
returns-then-is_flow_start-clause-is c = λ depth col.
    rw (← c.in_default.ensures, ← c.if-is_property.ensures, ← c.if-is_flow_start.ensures.value, start-at c.args.file.now.bytes.now c.args.at c.requires.inside) refl

pub returns-in_err-read-clause-is : goal.returns-in_err-read-clause-is
unfolding flow_key
returns-in_err-read-clause-is c = λ depth.
    let p = err_from_is_err_and c.from_residual.result c.from_residual.ensures.1 in
    rw (p.1, p.2) (λ col. rw (← c.in_default.ensures, ← c.if-is_property.ensures, ← c.if-is_flow_start.ensures.value)
    (stops-given _ (key_with c.args.file.now.bytes.now c.args.at) _ _ c.in_err-read.ensures.is))

pub returns-in_err-colon-clause-is : goal.returns-in_err-colon-clause-is
unfolding flow_key
returns-in_err-colon-clause-is c = λ depth.
    let bytes = c.args.file.now.bytes.now in
    let p = err_from_is_err_and c.from_residual-in_err-colon.result c.from_residual-in_err-colon.ensures.1 in
    rw (p.1, p.2) (λ col. rw (← c.in_default.ensures, ← c.if-is_property.ensures, ← c.if-is_flow_start.ensures.value)
    (given-ok _ (key_with bytes c.args.at) _ _ c.in_ok-read.ensures.is
    ∙ run-stop _ _ (with_colon bytes c.args.at (read_of bytes c.in_ok-read.read)) _ (run-refused _ _ _ c.in_err-colon.ensures.is)))

pub returns-in_err-start-clause-is : goal.returns-in_err-start-clause-is
unfolding flow_key
returns-in_err-start-clause-is c = λ depth.
    let bytes = c.args.file.now.bytes.now in
    let p = err_from_is_err_and c.from_residual-in_err-start.result c.from_residual-in_err-start.ensures.1 in
    rw (p.1, p.2) (λ col. rw (← c.in_default.ensures, ← c.if-is_property.ensures, ← c.if-is_flow_start.ensures.value)
    (given-ok _ (key_with bytes c.args.at) _ _ c.in_ok-read.ensures.is
    ∙ given-ok _ (with_colon bytes c.args.at (read_of bytes c.in_ok-read.read)) _ _ c.in_ok-colon.ensures.is
    ∙ rw (start-at bytes c.args.at c.requires.inside) (run-broken _ _ _ _ _ _ c.in_err-start.ensures.limits)))

pub returns-clause-is : goal.returns-clause-is
unfolding flow_key
returns-clause-is c = λ depth col.
    let bytes = c.args.file.now.bytes.now in
    rw (← c.in_default.ensures, ← c.if-is_property.ensures, ← c.if-is_flow_start.ensures.value)
    (given-ok _ (key_with bytes c.args.at) _ _ c.in_ok-read.ensures.is
    ∙ given-ok _ (with_colon bytes c.args.at (read_of bytes c.in_ok-read.read)) _ _ c.in_ok-colon.ensures.is
    ∙ rw (start-at bytes c.args.at c.requires.inside, c.in_ok-start.ensures.state) (run-start _ _ _ _ _ c.in_ok-start.ensures.limits ∙ run-gives _ _))
