use Rattle.al_yaml_parts.proofs.ContentLemmas.{dash-second}
use Rattle.al_yaml_parts.proofs.content.is_dash.Goals as goal

pub returns-then-begins-clause-value : goal.returns-then-begins-clause-value
returns-then-begins-clause-value c = dash-second c.args.bytes.now c.args.at c.requires c.is_blank_or_end.result c.if-begins.ensures.value c.is_blank_or_end.ensures
