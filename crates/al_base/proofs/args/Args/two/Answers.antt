use Rattle.std.proofs.Common.{◌≡◌, ◌++◌, ◌∙◌, ap, string_bytes}
use Rattle.al_base.proofs.TwoTexts.{cut_between, parts_of}
use Rattle.al_base.proofs.args.Args.two.Goals as goal

pub invariant_of-result : goal.invariant_of-result
invariant_of-result c =
    let first = c.args.first.now in
    let second = c.args.second.now in
    let text : string_bytes c.push_str-2.new.self ≡ first ++ second =
    c.in_ok-push_str-2.ensures.bytes ∙ ap (λ t. t ++ second) (c.in_ok-push_str.ensures.bytes ∙ ap (λ t. t ++ first) c.in_ok-text.ensures.bytes) in
    cut_between (string_bytes c.push_str-2.new.self) first second text c.utf8.second

pub returns : goal.returns
returns c =
    let first = c.args.first.now in
    let second = c.args.second.now in
    let text : string_bytes c.push_str-2.new.self ≡ first ++ second =
    c.in_ok-push_str-2.ensures.bytes ∙ ap (λ t. t ++ second) (c.in_ok-push_str.ensures.bytes ∙ ap (λ t. t ++ first) c.in_ok-text.ensures.bytes) in
    parts_of (string_bytes c.push_str-2.new.self) first second text
