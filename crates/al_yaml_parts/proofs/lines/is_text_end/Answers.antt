use Rattle.al_yaml_parts.proofs.LineLemmas.{empty-value}
use Rattle.al_yaml_parts.proofs.lines.is_text_end.Goals as goal

pub returns-clause-text : goal.returns-clause-text
returns-clause-text c = empty-value c.args.bytes.now c.args.at c.is_line_end.result c.requires c.is_line_end.ensures
