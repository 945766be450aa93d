use Rattle.std.proofs.Common.{◌∙◌}
use Rattle.al_yaml_parts.proofs.NameLemmas.{no_name-is}
use Rattle.al_yaml_parts.proofs.anchors.has_no_name.Goals as goal

pub returns : goal.returns
returns c = c.ends_name.ensures ∙ no_name-is c.args.bytes.now c.args.at c.requires.inside c.requires.property
