use Rattle.al_yaml_parts.proofs.NameLemmas.{after_name-is, line-is, property-solid}
use Rattle.al_yaml_parts.proofs.anchors.property_end.Goals as goal

pub returns-clause-lines : goal.returns-clause-lines
returns-clause-lines c =
    let bytes = c.args.bytes.now in
    after_name-is bytes c.args.at c.name_end.result c.requires.inside (property-solid bytes c.args.at c.requires.inside c.requires.property)
    c.name_end.ensures.from c.name_end.ensures.inside c.name_end.ensures.cells c.name_end.ensures.lines

pub returns-clause-line : goal.returns-clause-line
returns-clause-line c =
    let bytes = c.args.bytes.now in
    line-is bytes c.args.at c.name_end.result c.requires.inside (property-solid bytes c.args.at c.requires.inside c.requires.property)
    c.name_end.ensures.from c.name_end.ensures.inside c.name_end.ensures.cells c.name_end.ensures.lines
