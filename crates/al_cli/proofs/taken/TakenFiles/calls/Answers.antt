use Rattle.std.proofs.Common.{List, ap, ◌∙◌}
use Rattle.std.specs.Borrow.{Bor}
use Rattle.al_lint.specs.declared.lint.Target.{Target}
use Rattle.al_cli.proofs.Turns.{calls_none, calls_there, copied_or, item_none, item_there}
use Rattle.al_cli.proofs.taken.TakenFiles.calls.Goals as goal

pub returns-in-Some : goal.returns-in-Some
returns-in-Some c =
    calls_there c.self.inside.files.folder c.self.inside.files.checks c.self.inside.order.items c.args.self.now c.args.number c.in-Some.path.now
    c.as_str.result.now c.calls.result c.unwrap_or.result.now c.self.invariant c.self.view_is
    (item_there c.deref.result.now _ _ c.in-Some.path c.deref.ensures.value c.in-Some.ensures.lookup) c.as_str.ensures.text c.calls.ensures
    (ap (λ (b : Bor (List Target)). b.now) c.unwrap_or.ensures ∙ copied_or c.calls.result _)

pub returns-in-None : goal.returns-in-None
returns-in-None c =
    calls_none c.self.inside.files.folder c.self.inside.order.items c.args.self.now c.args.number c.self.view_is
    (item_none c.deref.result.now _ _ c.deref.ensures.value c.in-None.ensures.lookup)
