use Rattle.std.proofs.Common.{◌∙◌, ap, sym, slice_index}
use Rattle.al_yaml_tree.specs.Content.{block_fault, start_fault}
use Rattle.al_yaml_parts.proofs.LineLemmas.{first_cell}
use Rattle.al_yaml_parts.proofs.starts.block_fault.Goals as goal

pub returns : goal.returns
returns c =
    c.start_fault.ensures ∙ ap (start_fault (slice_index c.args.bytes.now c.args.at)) c.is_blank_or_end.ensures
    ∙ sym (ap block_fault (first_cell c.args.bytes.now c.args.at c.requires c.if-is_text_end.ensures.text))
