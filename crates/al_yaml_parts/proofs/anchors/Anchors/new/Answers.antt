use Rattle.std.specs.BTreeMap.{is_at}
use Rattle.std.specs.Cmp.Lexicographic.{slice_cmp}
use Rattle.std.specs.Map.{lookup}
use Rattle.std.specs.Ordering.{nat_cmp}
use Rattle.std.specs.Prelude.{option_map}
use Rattle.al_yaml_parts.specs.Reads.{anchor_seen, last_anchor}
use Rattle.al_yaml_parts.proofs.anchors.Anchors.new.Goals as goal

pub returns : goal.returns
unfolding last_anchor
returns c = λ i name. option_map (anchor_seen name) (lookup (is_at (λ k. slice_cmp nat_cmp name k.items)) (c.new.ensures.empty i))
