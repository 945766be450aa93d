use Rattle.std.proofs.Common.{Some, ap, sym, ◌∙◌}
use Rattle.std.specs.Option.{option_map}
use Rattle.al_session_folder.specs.declared.kept.KeptFile.{KeptFile}
use Rattle.al_session.proofs.Graphs.{graph_put}
use Rattle.al_session.proofs.calls.forget_unless_same.Goals as goal

pub returns-then-has_same_calls-clause-after : goal.returns-then-has_same_calls-clause-after
returns-then-has_same_calls-clause-after g c =
    graph_put g.L.Lint.meaning g.L.Lint.is_unit c.args.files.now.entries c.args.path.now c.args.file.now c.args.calls.now c.requires.kept c.requires.file
    (ap (option_map (λ (kept : KeptFile _ _). kept.calls.targets.items)) (sym c.in-Some.ensures.value)
    ∙ ap Some (sym c.deref.ensures.value ∙ c.has_same_calls.ensures.0 c.if-has_same_calls.true ∙ c.deref-in-Some.ensures.value)) c.requires.graph
