use Rattle.std.proofs.Common.{Some, ap, is_some, sym, ◌∙◌}
use Rattle.std.specs.Option.{option_copied}
use Rattle.al_check_calls.specs.Outputs.{called_outputs}
use Rattle.al_check_calls.specs.AnswerViews.{answered_of}
use Rattle.al_check_calls.specs.Private.KnownLists.{position_of}
use Rattle.al_check_calls.proofs.KnownLists.{found_takes, none_takes, pushed_lists, pushed_stands, put_takes, takes_as}
use Rattle.al_check_calls.proofs.known.Lists.position.Goals as goal

pub returns-in_default : goal.returns-in_default
returns-in_default c =
    let a = answered_of c.args.answered in
    none_takes c.args.self.now (is_some a.call.site.step) a.call.text (called_outputs a) (sym c.outputs_of.ensures ∙ ap option_copied c.in_default.is)

pub returns-in-Some-get : goal.returns-in-Some-get
unfolding position_of
returns-in-Some-get c =
    takes_as c.is_some.ensures c.uses_text.ensures (sym (ap option_copied c.in-Some.is) ∙ c.outputs_of.ensures)
    (found_takes c.args.self.now c.is_some.result c.uses_text.result.now (Some c.in-Some.names.now) c.in-Some-get.known.now
    (sym c.get.ensures.value ∙ ap option_copied c.in-Some-get.is))

pub returns : goal.returns
returns c =
    let lists = c.args.self.now.lists in
    let names = c.in-Some.names in
    takes_as c.is_some.ensures c.uses_text.ensures (sym (ap option_copied c.in-Some.is) ∙ c.outputs_of.ensures)
    (put_takes c.args.self.now (record { positions = c.insert.new.self; lists = c.push.new.self }) (c.is_some.result, c.uses_text.result) names.now
    c.len-position.result c.in_ok-insert.ensures.updates (pushed_lists lists.items c.push.new.self.items names c.in_ok-push.ensures.items)
    (pushed_stands lists.items c.push.new.self.items names c.len-position.result c.in_ok-push.ensures.items (c.len-position.ensures ∙ lists.ok.0)))
