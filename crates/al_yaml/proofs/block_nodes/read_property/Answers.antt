use Rattle.std.proofs.Common.{suc, refl, sym, ◌∙◌}
use Rattle.std.proofs.lemmas.Result.{err_from_is_err_and}
use Rattle.al_scalar.specs.Places.{lines_at}
use Rattle.al_scalar.proofs.RestLemmas.{start-at}
use Rattle.al_yaml_tree.specs.Flow.{flow_collection}
use Rattle.al_yaml_tree.specs.Blocks.{block_content, block_node, block_property, ending_line}
use Rattle.al_yaml_parts.specs.BlockReads.{slot_of}
use Rattle.al_yaml_parts.specs.Reads.{state_of}
use Rattle.al_yaml_parts.specs.Stacks.{depth_in}
use Rattle.al_yaml_parts.proofs.ReadLemmas.{bind-ok, given-ok, stops-bind, stops-from}
use Rattle.al_yaml_parts.proofs.RunLemmas.{run-fails, run-gives, run-refused, run-stop}
use Rattle.al_yaml.proofs.BlockNodeLemmas.{alias-through, no-anchor, second-stops}
use Rattle.al_yaml.proofs.BlockStepLemmas.{property-begins}
use Rattle.al_yaml.proofs.block_nodes.read_property.Goals as goal
use Rattle.al_yaml.proofs.block_nodes.read_property.Goals.{then-is_some-via-then-is_some, then-is_some-via-else-is_some+then-has_no_name}

pub returns-then-is_some-clause-is : goal.returns-then-is_some-clause-is
unfolding block_node block_property
returns-then-is_some-clause-is c = λ bound. rw c.at.ensures.is (elim c.then-is_some.branch [
  | then-is_some-via-then-is_some w ↦ second-stops bound c.args.node.anchor (slot_of c.args.node.slot) (depth_in c.args.progress.now.stack)
      c.args.node.start.column (state_of c.args.progress.now.state) c.args.file.now.bytes.now c.args.node.start.at c.requires.here.node.inside
      c.requires.property w.if-is_some.ensures
  | then-is_some-via-else-is_some+then-has_no_name w ↦ no-anchor bound c.args.node.anchor _ _ _ _ _ _ w.if-is_some.ensures
      ∙ rw (c.requires.property, ← w.if-has_no_name.ensures, start-at c.args.file.now.bytes.now c.args.node.start.at c.requires.here.node.inside) (run-fails _ _ _)
])

pub returns-then-on_key-clause-is : goal.returns-then-on_key-clause-is
unfolding block_node block_property
returns-then-on_key-clause-is c = λ bound.
    let here = start-at c.args.file.now.bytes.now c.args.node.start.at c.requires.here.node.inside in
    let on_key = sym c.in_ok-on_key.ensures ∙ c.if-on_key.true in
    rw c.at-then-on_key.ensures.is (no-anchor bound c.args.node.anchor _ _ _ _ _ _ c.if-is_some.ensures
    ∙ rw (c.requires.property, ← c.if-has_no_name.ensures, on_key, here) (run-fails _ _ _))

pub returns-in_err-part-clause-is : goal.returns-in_err-part-clause-is
unfolding block_node block_property
returns-in_err-part-clause-is c = λ bound.
    let p = err_from_is_err_and c.from_residual-in_err-part.result c.from_residual-in_err-part.ensures.1 in
    rw (p.1, p.2) (stops-from _ _ _ _ _ (no-anchor bound c.args.node.anchor _ _ _ _ _ _ c.if-is_some.ensures
    ∙ rw (c.requires.property, ← c.if-has_no_name.ensures, sym c.in_ok-on_key.ensures ∙ c.if-on_key.false, ← c.if-begins.ensures.value)
    (alias-through (state_of c.args.progress.now.state) (depth_in c.args.progress.now.stack) (lines_at c.args.file.now.bytes.now c.args.node.start.at)))
    (stops-bind _ ending_line _ _ (rw c.depth-depth.ensures.value at c.in_err-part.ensures.is)))

pub returns-in_err-next-clause-is : goal.returns-in_err-next-clause-is
unfolding block_node block_property
returns-in_err-next-clause-is c = λ bound.
    let p = err_from_is_err_and c.from_residual-in_err-next.result c.from_residual-in_err-next.ensures.1 in
    rw (p.1, p.2) (no-anchor bound c.args.node.anchor _ _ _ _ _ _ c.if-is_some.ensures
    ∙ rw (c.requires.property, ← c.if-has_no_name.ensures, sym c.in_ok-on_key.ensures ∙ c.if-on_key.false, ← c.if-begins.ensures.value)
    (alias-through (state_of c.args.progress.now.state) (depth_in c.args.progress.now.stack) (lines_at c.args.file.now.bytes.now c.args.node.start.at)
    ∙ bind-ok _ ending_line _ _ _ (rw c.depth-depth.ensures.value at c.in_ok-part.ensures.is) ∙ run-stop _ _ _ _ (run-refused _ _ _ c.in_err-next.ensures.is)))

pub returns-then-begins-clause-is : goal.returns-then-begins-clause-is
unfolding block_node block_property
returns-then-begins-clause-is c = λ bound. no-anchor bound c.args.node.anchor _ _ _ _ _ _ c.if-is_some.ensures
    ∙ rw (c.requires.property, ← c.if-has_no_name.ensures, sym c.in_ok-on_key.ensures ∙ c.if-on_key.false, ← c.if-begins.ensures.value)
    (alias-through (state_of c.args.progress.now.state) (depth_in c.args.progress.now.stack) (lines_at c.args.file.now.bytes.now c.args.node.start.at)
    ∙ bind-ok _ ending_line _ _ _ (rw c.depth-depth.ensures.value at c.in_ok-part.ensures.is) ∙ given-ok _ _ _ _ c.in_ok-next.ensures.is ∙ run-gives _ _)

pub returns-clause-is : goal.returns-clause-is
unfolding block_node block_property
returns-clause-is c = λ bound.
    let here = start-at c.args.file.now.bytes.now c.args.node.start.at c.requires.here.node.inside in
    let free = sym c.in_ok-on_key.ensures ∙ c.if-on_key.false in
    property-begins c.args.file.now.bytes.now bound (depth_in c.args.progress.now.stack) c.args.node.start.at (state_of c.args.progress.now.state)
    (state_of c.find_rest.new.state) _ _ c.find_rest.result (no-anchor bound c.args.node.anchor _ _ _ _ _ _ c.if-is_some.ensures
    ∙ rw (c.requires.property, ← c.if-has_no_name.ensures, free, ← c.if-begins.ensures.value, here, c.property_end-rest.ensures.lines) refl)
    (c.find_rest.ensures.is (block_content (block_node bound) (flow_collection (suc bound)) (suc bound)) (depth_in c.args.progress.now.stack))
