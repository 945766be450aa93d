use Rattle.std.proofs.Common.{◌≡◌, ◌++◌, ◌∙◌, ap, append-nil, rules, sym, true}
use Rattle.std.specs.Prelude.{is_none}
use Rattle.al_rules_settings.proofs.Places.{no_colon_found}
use Rattle.al_rules_settings.proofs.commands.check_script.Goals as goal

pub returns-then-is_none : goal.returns-then-is_none
returns-then-is_none c =
    let before = c.args.faults.now in
    let gone : is_none c.memchr.result ≡ true = search rules in
    let none = no_colon_found c.in-Some.script.now c.text.result.now c.memchr.result c.text.ensures gone c.memchr.ensures in
    rw c.in-Some.is (sym (append-nil before) ∙ ap (λ fs. before ++ fs) (sym none))
