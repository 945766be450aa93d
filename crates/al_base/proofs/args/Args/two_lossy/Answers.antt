use Rattle.std.proofs.Common.{◌≡◌, ◌∙◌, sym}
use Rattle.std.proofs.lemmas.Str.{utf8_lossy-IsUtf8}
use Rattle.std.specs.Str.Lossy.{utf8_lossy}
use Rattle.al_base.proofs.args.Args.two_lossy.Goals as goal

pub returns-in-Ok-Ok : goal.returns-in-Ok-Ok
returns-in-Ok-Ok c =
    let first : c.in-Ok-Ok.first.now ≡ utf8_lossy c.args.first.now =
    c.in-Ok-Ok.ensures.cases.0 ∙ sym (utf8_lossy-IsUtf8 c.args.first.now c.in-Ok-Ok.ensures.cases.1) in
    let second : c.in-Ok-Ok.second.now ≡ utf8_lossy c.args.second.now =
    c.in-Ok-Ok.ensures'.cases.0 ∙ sym (utf8_lossy-IsUtf8 c.args.second.now c.in-Ok-Ok.ensures'.cases.1) in
    rw (← first, ← second) c.two.ensures
