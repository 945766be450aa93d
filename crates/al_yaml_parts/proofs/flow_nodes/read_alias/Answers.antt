use Rattle.std.proofs.lemmas.Result.{err_from_is_err_and}
use Rattle.al_yaml_parts.specs.Reads.{state_of}
use Rattle.al_yaml_tree.specs.View.{view}
use Rattle.al_yaml_parts.proofs.AliasLemmas.{alias-stops, alias-part}
use Rattle.al_yaml_parts.proofs.flow_nodes.read_alias.Goals as goal

pub returns-in_err-node-clause-is : goal.returns-in_err-node-clause-is
returns-in_err-node-clause-is c =
    let p = err_from_is_err_and c.from_residual.result c.from_residual.ensures.1 in
    rw (p.1, p.2) (alias-stops c.args.file.now.bytes.now c.args.at c.requires.inside (state_of c.args.state.now) c.args.depth c.in_err-node.field-0.0 c.in_err-node.ensures.is)

pub returns-clause-is : goal.returns-clause-is
returns-clause-is c =
    alias-part c.args.file.now.bytes.now c.args.at c.requires.inside (state_of c.args.state.now) c.args.depth (view c.in_ok-node.node) (state_of c.alias.new.self)
    c.property_end-end.result c.property_end-end.ensures.inside c.property_end-end.ensures.lines c.in_ok-node.ensures.is
