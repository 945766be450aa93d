use Rattle.al_yaml_parts.specs.FlowReads.{flow_slot}
use Rattle.al_yaml_parts.proofs.flow_nodes.read_flow_node.Goals as goal

pub returns-then-is_property-clause-is : goal.returns-then-is_property-clause-is
returns-then-is_property-clause-is c = rw (← c.if-is_property.ensures) c.read_flow_property.ensures.is

pub returns-clause-is : goal.returns-clause-is
returns-clause-is c = rw (← c.if-is_property.ensures) (c.read_flow_content.ensures.is c.args.depth (flow_slot c.args.slot))
