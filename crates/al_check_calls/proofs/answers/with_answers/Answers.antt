use Rattle.std.proofs.Common.{[], ◌∷◌, ◌++◌, ap, append-nil, arith, map, option_map, None, sym, ◌∙◌}
use Rattle.std.proofs.lemmas.List.{drop_all, map-append}
use Rattle.std.proofs.lemmas.Option.{slice_get-map}
use Rattle.std.specs.Option.{option_copied}
use Rattle.std.specs.Prelude.{unwrap_or}
use Rattle.al_check_interfaces.specs.CallViews.{call_of}
use Rattle.al_check_calls.specs.Answers.{answered_by}
use Rattle.al_check_calls.specs.AnswerViews.{answered_of}
use Rattle.al_check_calls.proofs.Answering.{all_answered, answer_there, answered_more, item_at}
use Rattle.al_check_calls.proofs.answers.with_answers.Goals as goal

pub loop-i-preserved-in_default : goal.loop-i-preserved-in_default
loop-i-preserved-in_default c =
    let calls = c.args.calls.now in
    let k = c.index-kept-i.result in
    answered_more (map call_of calls) c.args.kept.now c.loop-i.i k (map (λ a. option_copied a) c.args.answers.now) None _ _ _ c.loop-i-test.true c.index-kept-i.is
    (slice_get-map call_of calls k.number ∙ ap (option_map call_of) (item_at calls k.number c.get.result c.get.ensures.lookup ∙ ap option_copied c.in_default.is))
    (sym (append-nil (map answered_of c.loop-i.found.items))) c.loop-i.invariant

pub loop-i-preserved : goal.loop-i-preserved
loop-i-preserved c =
    let calls = c.args.calls.now in
    let k = c.index-kept-i.result in
    let i = c.loop-i.i in
    let found = c.loop-i.found.items in
    let answers = c.args.answers.now in
    let answer = c.unwrap_or-answer.ensures ∙ ap (λ o. unwrap_or o None) (c.copied.ensures ∙ sym (item_at answers i c.get-in-loop-i.result c.get-in-loop-i.ensures.lookup)) in
    answered_more (map call_of calls) c.args.kept.now i k (map (λ a. option_copied a) answers) _ _ _ _ c.loop-i-test.true c.index-kept-i.is
    (slice_get-map call_of calls k.number ∙ ap (option_map call_of) (item_at calls k.number c.get.result c.get.ensures.lookup ∙ ap option_copied c.in-Some.is))
    (ap (map answered_of) c.in_ok-push.ensures.items ∙ map-append answered_of found (record { call = c.in-Some.call.now; answer = c.unwrap_or-answer.result } ∷ [])
    ∙ ap (λ a. map answered_of found ++ answered_by (call_of c.in-Some.call.now) a ∷ []) (ap option_copied answer ∙ answer_there answers i))
    c.loop-i.invariant

pub returns : goal.returns
returns c kind root calls kept =
    rw (
      drop_all c.loop-i.i c.args.kept.now (omega (arith, c.loop-i-test.false)),
      append-nil,
      calls,
      all_answered kind root c.args.kept.now (map (λ a. option_copied a) c.args.answers.now) kept,
    ) at c.loop-i.invariant
