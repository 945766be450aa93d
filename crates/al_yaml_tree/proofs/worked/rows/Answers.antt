use Rattle.std.proofs.Common.{refl}
use Rattle.std.proofs.Math.Utf8.{encode}
use Rattle.std.specs.Str.{is_utf8, chars}
use Rattle.std.specs.Str.Lossy.{utf8_valid_len}
use Rattle.al_yaml_tree.specs.Flow.{flow_content, flow_property, flow_collection, flow_items, flow_entries, flow_key, flow_entry_value}
use Rattle.al_yaml_tree.specs.Keys.{no_entry, entry_key}
use Rattle.al_yaml_tree.specs.Blocks.{block_content, block_property, block_node, sequence_entries, mapping_entries}
use Rattle.al_yaml_tree.proofs.worked.rows.Goals as goal

pub returns : goal.returns
unfolding encode is_utf8 chars utf8_valid_len flow_content flow_property flow_collection flow_items flow_entries flow_key flow_entry_value
    no_entry entry_key sequence_entries mapping_entries block_content block_property block_node
returns c = record {
  second_colon = refl;
  tab = refl;
  open_quote = refl;
  open_flow = refl;
  block_header = refl;
  folded_key = refl;
  indentation = refl;
  second_document = refl;
  not_utf8 = refl;
  anchor = refl;
  unknown_alias = refl;
  alias_in_its_anchor = refl;
  anchored_key = refl;
  latest_anchor = refl;
  second_anchor = refl;
  anchor_without_node = refl;
  empty_after_anchor = refl;
  filter = refl;
  list_at_its_key = refl;
  list_on_its_keys_line = refl;
  marker_in_flow = refl;
  comments_alone = refl;
  classes = refl;
}
