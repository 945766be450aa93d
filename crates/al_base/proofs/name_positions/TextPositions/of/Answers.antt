use Rattle.std.proofs.Common.{◌≡◌, ◌∙◌, ap, arith, length, map, subst, sym}
use Rattle.std.proofs.lemmas.List.{length-map, take_all}
use Rattle.al_base.specs.NamePlaces.{is_first_text, text_place, text_position}
use Rattle.al_base.specs.SortedTexts.{StandIn, TellPlaces}
use Rattle.al_base.proofs.Places.{firsts, stand, turn_next}
use Rattle.al_base.proofs.SortedTexts.{entries_next}
use Rattle.al_base.proofs.name_positions.TextPositions.of.Goals as goal

pub loop-i-preserved : goal.loop-i-preserved
loop-i-preserved c =
    let turn = turn_next (λ t. t.now) (λ t. t.now) c.args.texts.now c.loop-i.i _ c.loop-i.entries.items _ c.new.result c.loop-i-test.true c.loop-i.invariant.many
    c.loop-i.invariant.turn c.in_ok-push.ensures.items c.new.ensures.key c.new.ensures.position in
    record {
      position = entries_next (λ t. t.now) (λ t. t.now) c.args.texts.now c.loop-i.i _ c.loop-i.entries.items _ c.new.result c.loop-i-test.true c.loop-i.invariant.position
          c.in_ok-push.ensures.items c.new.ensures.key c.new.ensures.position;
      many = turn.0;
      turn = turn.1;
    }

pub places_by-requires-clause-texts : goal.places_by-requires-clause-texts
places_by-requires-clause-texts c =
    let ts = map (λ t. t.now) c.args.texts.now in
    let many : length c.loop-i.entries.items ≡ length ts = omega (arith, c.loop-i.invariant.many, c.loop-i-test.false, c.loop-i.auto.i-end, length-map c.args.texts.now (λ t. t.now)) in
    subst (StandIn (λ t. t.now)) (sym c.as_slice.ensures.value)
    (stand (λ t. t.now) ts c.loop-i.entries.items c.in_ok-entries-2.entries.items many c.loop-i.invariant.turn c.in_ok-entries-2.ensures.entries)

pub returns-clause-position : goal.returns-clause-position
unfolding text_position
returns-clause-position c =
    c.in_ok-entries-2.ensures.positions ∙ c.loop-i.invariant.position
    ∙ ap (λ xs. text_place (map (λ t. t.now) xs)) (take_all c.loop-i.i c.args.texts.now (omega (arith, c.loop-i-test.false)))

pub returns-clause-first : goal.returns-clause-first
unfolding is_first_text
returns-clause-first c =
    let ts = map (λ t. t.now) c.args.texts.now in
    let many : length c.loop-i.entries.items ≡ length ts = omega (arith, c.loop-i.invariant.many, c.loop-i-test.false, c.loop-i.auto.i-end, length-map c.args.texts.now (λ t. t.now)) in
    firsts (λ t. t.now) ts c.loop-i.entries.items c.in_ok-entries-2.entries.items many c.loop-i.invariant.turn c.in_ok-entries-2.ensures.entries c.in_ok-places.places.items
    (subst (λ es. TellPlaces (λ t. t.now) es c.in_ok-places.places.items) c.as_slice.ensures.value c.in_ok-places.ensures) (text_place ts)
    (c.in_ok-entries-2.ensures.positions ∙ c.loop-i.invariant.position
    ∙ ap (λ xs. text_place (map (λ t. t.now) xs)) (take_all c.loop-i.i c.args.texts.now (omega (arith, c.loop-i-test.false))))
