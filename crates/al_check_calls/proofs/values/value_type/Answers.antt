use Rattle.std.proofs.Common.{ap, sym, ◌∙◌}
use Rattle.std.proofs.lemmas.Result.{IfOk-weaker}
use Rattle.std.specs.Option.{option_copied}
use Rattle.al_check_contexts.specs.Answered.{known_of}
use Rattle.al_check_contexts.specs.Scopes.{scope_at}
use Rattle.al_tree.specs.Values.{member_of}
use Rattle.al_yaml_tree.specs.View.{view}
use Rattle.al_check_calls.specs.Types.{type_of_given}
use Rattle.al_check_calls.proofs.Short.{scalar_short}
use Rattle.al_check_contexts.specs.Environments.{file_of}
use Rattle.al_check_contexts.proofs.Environments.{moved_and_grown}
use Rattle.al_check_objects.proofs.Numbers.{always}
use Rattle.al_check_calls.proofs.values.value_type.Goals as goal

pub scalar_type-requires-clause-utf8 : goal.scalar_type-requires-clause-utf8
scalar_type-requires-clause-utf8 c =
    (scalar_short (member_of c.args.member).1 c.in-Some.scalar.now (sym c.scalar.ensures ∙ ap option_copied c.in-Some.is) c.requires.short).0

pub returns-clause-moved : goal.returns-clause-moved
returns-clause-moved c =
    always c.scalar_type.result (moved_and_grown c.go_to.new.self _ c.scalar_type.new.types c.in_ok-go_to.ensures.moved c.scalar_type.ensures.kept)

pub returns-clause-ty : goal.returns-clause-ty
returns-clause-ty c =
    let file = file_of c.args.env.now in
    let there = c.in_ok-go_to.ensures.scope ∙ ap (scope_at file.kind (known_of file.known) (view file.root.now)) c.place_of_value.ensures in
    rw (← c.scalar.ensures, c.in-Some.is)
    (IfOk-weaker c.scalar_type.result _ _ (λ t ty. ty ∙ ap (λ sc. type_of_given sc c.in-Some.scalar.now) there) c.scalar_type.ensures.ty)
