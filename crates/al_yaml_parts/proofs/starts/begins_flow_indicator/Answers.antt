use Rattle.std.proofs.Common.{◌∙◌, ap, sym}
use Rattle.al_scalar.specs.Plain.{begins_flow_indicator}
use Rattle.al_yaml_parts.proofs.LineLemmas.{first_cell}
use Rattle.al_yaml_parts.proofs.starts.begins_flow_indicator.Goals as goal

pub returns-then-not-is_text_end : goal.returns-then-not-is_text_end
returns-then-not-is_text_end c = c.is_flow_indicator.ensures ∙ sym (ap begins_flow_indicator (first_cell c.args.bytes.now c.args.at c.requires c.if-not-is_text_end.ensures.text))
