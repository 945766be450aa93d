use Rattle.std.proofs.Common.{◌≡◌, ◌<◌, ◌==◌, ◌++◌, ◌∷◌, ◌∙◌, [], ap, false, get_or, length, map, rules, sym}
use Rattle.std.proofs.lemmas.List.{map-append}
use Rattle.std.specs.List.{slice_range}
use Rattle.al_check_interfaces.specs.Forms.{is_remote}
use Rattle.al_check_interfaces.proofs.Cuts.{all_more, cuts_from, other_passed, slash_passed}
use Rattle.al_check_interfaces.proofs.forms.is_some_cut.Goals as goal
use Rattle.al_check_interfaces.proofs.forms.is_some_cut.Goals.{then-byte-eq47+in_ok-push, else-byte-eq47}

pub loop-i-preserved : goal.loop-i-preserved
loop-i-preserved c =
    let text = c.args.text.now in
    let i = c.loop-i.i in
    let done = map (λ p. p.now) c.loop-i.done.items in
    let room : i < length text = search rules in
    let before = ap (λ l. map (λ p. p.now) l ++ slice_range text c.loop-i.start i ∷ []) c.as_slice.ensures.value in
    let cuts = sym (cuts_from text i done c.loop-i.start room c.loop-i.invariant.passed (is_remote c.args.caller) _ _ before (sym c.is_cut.ensures ∙ c.if-is_cut.false))
    ∙ c.loop-i.invariant.cuts in
    elim c.if-byte-eq47.branch [
      | then-byte-eq47+in_ok-push w ↦
          let slash : get_or text i 0 ≡ 47 = search rules in
          let more = ap (λ v. map (λ p. p.now) v.items) w.done-is ∙ ap (map (λ p. p.now)) w.in_ok-push.ensures.items ∙ map-append (λ p. p.now) c.loop-i.done.items _ in
          record {
            start = search rules;
            whole = search (rules, all_more);
            passed = slash_passed text i done c.loop-i.start room c.loop-i.invariant.passed _ _ slash more w.start-is;
            cuts = cuts;
          }
      | else-byte-eq47 w ↦
          let other : (get_or text i 0 == 47) ≡ false = search rules in
          record {
            start = search rules;
            whole = search rules;
            passed = search (rules, other_passed text i done c.loop-i.start room c.loop-i.invariant.passed c.loop-i.invariant.start other);
            cuts = cuts;
          }
    ]

pub returns-then-is_cut : goal.returns-then-is_cut
returns-then-is_cut c =
    let text = c.args.text.now in
    let room : c.loop-i.i < length text = search rules in
    let before = ap (λ l. map (λ p. p.now) l ++ slice_range text c.loop-i.start c.loop-i.i ∷ []) c.as_slice.ensures.value in
    sym (cuts_from text c.loop-i.i _ c.loop-i.start room c.loop-i.invariant.passed (is_remote c.args.caller) _ _ before (sym c.is_cut.ensures ∙ c.if-is_cut.true))
    ∙ c.loop-i.invariant.cuts
