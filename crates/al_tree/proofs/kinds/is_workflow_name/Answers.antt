use Rattle.std.proofs.Common.{◌∙◌, ◌==◌, not, rules, sym, tests}
use Rattle.std.proofs.lemmas.Iterator.{YieldsList-from_slice}
use Rattle.std.proofs.lemmas.Iterator.Search.{all_from_yields_List}
use Rattle.al_tree.proofs.kinds.is_workflow_name.Goals as goal

pub returns-then-ends_as_workflow : goal.returns-then-ends_as_workflow
returns-then-ends_as_workflow c =
    rw (sym c.ends_as_workflow.ensures ∙ c.if-ends_as_workflow.true)
    (all_from_yields_List (λ b. not (b == 47)) _ _ c.all.result c.all.ensures.ran (YieldsList-from_slice c.args.name.now cc) (λ x b q k. search (rules, tests)))
