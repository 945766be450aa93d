use Rattle.std.proofs.Common.{◌∙◌, ◌-◌, ◌%◌, sym}
use Rattle.al_expr_types.specs.Prefixes.{map_in}
use Rattle.al_expr_types.proofs.PrefixLemmas.{prefix_kept}
use Rattle.al_expr_types.proofs.prefixes.Prefixes.base_of.Goals as goal

pub returns-clause-result : goal.returns-clause-result
returns-clause-result c =
    let n = c.args.count in
    let made = c.in_ok-object.ensures in (
      made.there,
      made.object ∙ sym (prefix_kept c.object.new.types.objects.items c.args.types.now.objects.items (map_in c.args.self.now) (n - n % 64) made.kept c.requires.below),
    )

pub returns-clause-base : goal.returns-clause-base
returns-clause-base c = returns-clause-result c
