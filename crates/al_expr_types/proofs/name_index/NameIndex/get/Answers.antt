use Rattle.std.proofs.Common.{ap, ◌∙◌}
use Rattle.std.specs.BTreeMap.{get_by}
use Rattle.al_base.specs.SortedTexts.{key_cmp}
use Rattle.al_expr_types.specs.Places.{place_in}
use Rattle.al_expr_types.proofs.name_index.NameIndex.get.Goals as goal

pub returns : goal.returns
unfolding place_in
returns c =
    c.copied.ensures ∙ c.get.ensures.value
    ∙ ap (λ key. get_by (λ k. key_cmp key (k.0, k.1.items)) c.args.self.now.positions) c.in_ok-key.ensures
