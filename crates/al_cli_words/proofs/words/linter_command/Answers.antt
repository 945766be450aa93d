use Rattle.std.proofs.Common.{◌≡◌, ◌∙◌, false, true, List, [], ◌∷◌, map, ap, ap₂, rules, sym}
use Rattle.std.specs.List.{AllByRecursion, fold}
use Rattle.std.proofs.lemmas.Result.{IfOk-weaker}
use Rattle.clap.specs.Simple.{Shape, app_of_fields, on_top}
use Rattle.clap.specs.Words.{AddsArg, AddsInTurn, app_of, rule_of, with_rule}
use Rattle.clap.specs.declared.builder.arg.Arg.{Arg}
use Rattle.clap.specs.declared.builder.command.Command.{Command}
use Rattle.clap.specs.declared.builder.command.Command.TheOpen.{Command-F}
use Rattle.al_cli_words.specs.Words.{bare_app, file_rule, linter_app, root_rule}
use Rattle.al_cli_words.proofs.words.linter_command.Goals as goal

abbrev without_flag : Shape → Shape
without_flag s = record s { disable_help_flag = true }

-- the rules of a command are those of the arguments that were added to it
with_args : (old new : Command) (args : List Arg) → AllByRecursion (λ (a : Arg). a.global ≡ false) args → AddsInTurn AddsArg old args new
    → app_of new ≡ fold with_rule (app_of old) (map rule_of args)
with_args old new [] local is = ap app_of (sym is)
with_args old new (a ∷ args) local added =
    with_args added.0 new args local.1 added.2 ∙ ap (λ app. fold with_rule app (map rule_of args)) (added.1.shape local.0)

pub returns : goal.returns
unfolding linter_app
returns c =
    let bare : app_of c.disable_help_flag.result ≡ bare_app =
    ap app_of_fields c.disable_help_flag.ensures
    ∙ ap (λ (f : Command-F Command). on_top without_flag (app_of_fields f)) c.after_help.ensures
    ∙ ap (λ (f : Command-F Command). on_top without_flag (app_of_fields f)) c.about.ensures
    ∙ ap (on_top without_flag) c.new-2.ensures.app in
    let root : rule_of c.value_name.result ≡ root_rule = search rules in
    let root_local : c.value_name.result.global ≡ false = search rules in
    let file : rule_of c.help.result ≡ file_rule = search rules in
    let file_local : c.help.result.global ≡ false = search rules in
    let args : List Arg = c.option_arg.result ∷ c.value_name.result ∷ c.option_arg-3.result ∷ c.option_arg-4.result ∷ c.help.result ∷ [] in
    IfOk-weaker c.args-2.result _ _ (λ command h.
    with_args c.disable_help_flag.result command args
    (c.option_arg.ensures.local, (root_local, (c.option_arg-3.ensures.local, (c.option_arg-4.ensures.local, (file_local, tt)))))
    (rw c.in_ok-args.ensures.items at h)
    ∙ ap₂ with_rule (ap₂ with_rule (ap₂ with_rule (ap₂ with_rule (ap₂ with_rule bare c.option_arg.ensures.rule) root)
    c.option_arg-3.ensures.rule) c.option_arg-4.ensures.rule) file)
    c.args-2.ensures
