use Rattle.std.proofs.Common.{◌+◌, ◌∙◌}
use Rattle.al_yaml_parts.proofs.ContentLemmas.{tab-is}
use Rattle.al_yaml_parts.proofs.content.first_tab.Goals as goal

pub returns-clause-is : goal.returns-clause-is
returns-clause-is c =
    c.then_some.ensures ∙ tab-is c.args.bytes.now c.args.at (c.args.at + c.indent.result) c.indent.ensures.dropped c.indent.ensures.inside c.begins.result c.begins.ensures.value
