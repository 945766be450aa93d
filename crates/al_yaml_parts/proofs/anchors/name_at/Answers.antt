use Rattle.std.proofs.Common.{◌≤◌, length, arith, sym}
use Rattle.al_yaml_parts.proofs.NameLemmas.{name-is, solid-text}
use Rattle.al_yaml_parts.proofs.anchors.name_at.Goals as goal

pub returns : goal.returns
returns c =
    let bytes = c.args.bytes.now in
    let inside : c.args.at ≤ length bytes = omega (arith, c.if-at-bytes.false) in
    sym (name-is bytes c.args.at c.name_end.result inside (solid-text bytes c.args.at inside c.if-is_text_end.ensures.text) c.name_end.ensures.from
    c.name_end.ensures.inside c.name_end.ensures.cells c.name_end.ensures.lines)
