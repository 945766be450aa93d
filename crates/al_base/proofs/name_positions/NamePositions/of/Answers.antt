use Rattle.std.proofs.Common.{◌≡◌, ◌∙◌, ap, arith, length, map, subst, sym, take}
use Rattle.std.proofs.lemmas.List.{length-map, take_all}
use Rattle.al_base.specs.Names.{lower_case}
use Rattle.al_base.specs.NamePlaces.{is_first_name, name_position, text_place}
use Rattle.al_base.specs.SortedTexts.{StandIn, TellPlaces, sort_key}
use Rattle.al_base.proofs.Places.{first_names, firsts, stand, turn_next}
use Rattle.al_base.proofs.SortedTexts.{entries_next, names_by_text}
use Rattle.al_base.proofs.name_positions.NamePositions.of.Goals as goal

pub loop-i-preserved : goal.loop-i-preserved
loop-i-preserved c =
    let turn = turn_next (λ n. n.items) (λ n. lower_case n.now) c.args.names.now c.loop-i.i _ c.loop-i.entries.items _ c.new.result c.loop-i-test.true c.loop-i.invariant.many
    c.loop-i.invariant.turn c.in_ok-push.ensures.items (c.new.ensures.key ∙ ap sort_key c.in_ok-in_lower_case.ensures) c.new.ensures.position in
    record {
      position = entries_next (λ n. n.items) (λ n. lower_case n.now) c.args.names.now c.loop-i.i _ c.loop-i.entries.items _ c.new.result c.loop-i-test.true c.loop-i.invariant.position
          c.in_ok-push.ensures.items (c.new.ensures.key ∙ ap sort_key c.in_ok-in_lower_case.ensures) c.new.ensures.position;
      many = turn.0;
      turn = turn.1;
    }

pub places_by-requires-clause-texts : goal.places_by-requires-clause-texts
places_by-requires-clause-texts c =
    let ts = map (λ n. lower_case n.now) c.args.names.now in
    let many : length c.loop-i.entries.items ≡ length ts = omega (arith, c.loop-i.invariant.many, c.loop-i-test.false, c.loop-i.auto.i-end, length-map c.args.names.now (λ n. lower_case n.now)) in
    subst (StandIn (λ n. n.items)) (sym c.as_slice.ensures.value)
    (stand (λ n. n.items) ts c.loop-i.entries.items c.in_ok-entries-2.entries.items many c.loop-i.invariant.turn c.in_ok-entries-2.ensures.entries)

pub returns-clause-position : goal.returns-clause-position
unfolding name_position
returns-clause-position c =
    let all : take c.loop-i.i c.args.names.now ≡ c.args.names.now =
    take_all c.loop-i.i c.args.names.now (omega (arith, c.loop-i-test.false)) in
    λ d name.
    (ap (λ f. f (lower_case name)) c.in_ok-entries-2.ensures.positions ∙ ap (λ f. f (lower_case name)) c.loop-i.invariant.position
    ∙ ap (λ ns. text_place (map (λ n. lower_case n.now) ns) (lower_case name)) all ∙ names_by_text (λ n. n.now) c.args.names.now name) d

pub returns-clause-first : goal.returns-clause-first
unfolding is_first_name
returns-clause-first c =
    let ts = map (λ n. lower_case n.now) c.args.names.now in
    let many : length c.loop-i.entries.items ≡ length ts =
    omega (arith, c.loop-i.invariant.many, c.loop-i-test.false, c.loop-i.auto.i-end, length-map c.args.names.now (λ n. lower_case n.now)) in
    first_names (λ n. n.now) c.args.names.now _
    (firsts (λ n. n.items) ts c.loop-i.entries.items c.in_ok-entries-2.entries.items many c.loop-i.invariant.turn c.in_ok-entries-2.ensures.entries c.in_ok-places.places.items
    (subst (λ es. TellPlaces (λ n. n.items) es c.in_ok-places.places.items) c.as_slice.ensures.value c.in_ok-places.ensures) (text_place ts)
    (c.in_ok-entries-2.ensures.positions ∙ c.loop-i.invariant.position
    ∙ ap (λ xs. text_place (map (λ n. lower_case n.now) xs)) (take_all c.loop-i.i c.args.names.now (omega (arith, c.loop-i-test.false)))))
