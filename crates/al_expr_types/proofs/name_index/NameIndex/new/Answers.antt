use Rattle.std.specs.BTreeMap.{is_at}
use Rattle.std.specs.Map.{lookup}
use Rattle.al_base.specs.Names.{lower_case}
use Rattle.al_base.specs.SortedTexts.{key_cmp, sort_key}
use Rattle.al_expr_types.specs.Places.{place_in}
use Rattle.al_expr_types.proofs.name_index.NameIndex.new.Goals as goal

pub returns : goal.returns
unfolding place_in
returns c = λ i name. lookup (is_at (λ k. key_cmp (sort_key (lower_case name)) (k.0, k.1.items))) (c.new.ensures.empty i)
