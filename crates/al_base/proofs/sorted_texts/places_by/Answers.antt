use Rattle.std.proofs.Common.{◌-◌, ◌≡◌, ◌∙◌, Some, ap, arith, get_or, rules, sym}
use Rattle.std.specs.Ordering.{is_eq}
use Rattle.std.proofs.lemmas.List.{get_or_default}
use Rattle.al_base.specs.SortedTexts.{entry_key, key_cmp, place_of}
use Rattle.al_base.proofs.Places.{new_place, numbered, place_at, placed_next, same_place}
use Rattle.al_base.proofs.sorted_texts.places_by.Goals.{then-i-eq0, then-i-eq0-via-then-i-eq0, then-i-eq0-via-else-i-eq0+then-not-is_eq, else-i-eq0+else-not-is_eq}
use Rattle.al_base.proofs.sorted_texts.places_by.Goals as goal

pub loop-i-preserved : goal.loop-i-preserved
loop-i-preserved g c =
    let items = g.T.AsSlice.items in
    let es = c.args.entries.now in
    let i = c.loop-i.i in
    let x = c.index-entries-i.result in
    let numbers = numbered items c.requires.texts.0 es c.requires.texts.2 in
    let place : place_of items es x ≡ Some c.if-i-eq0.place = elim c.if-i-eq0.branch [
      | then-i-eq0 w ↦
          new_place items es c.requires.order numbers i x c.loop-i-test.true c.index-entries-i.is
          (λ k n. elim w.then-i-eq0.branch [
            | then-i-eq0-via-then-i-eq0 w' ↦ absurd (omega (arith, n, w'.if-i-eq0.true))
            | then-i-eq0-via-else-i-eq0+then-not-is_eq w' ↦
                let y = w'.index-entries-i-else-i-eq0.result in
                let z : k ≡ i - 1 = omega (arith, n) in
                ap (λ j. is_eq (key_cmp (entry_key items (get_or es j x)) (entry_key items x))) z
                ∙ ap (λ v. is_eq (key_cmp (entry_key items v) (entry_key items x)))
                (get_or_default es (i - 1) x y (omega (arith, c.loop-i-test.true)) ∙ sym w'.index-entries-i-else-i-eq0.is)
                ∙ ap is_eq (sym (rw c.as_slice-text.ensures at w'.compare.ensures)) ∙ sym w'.is_eq.ensures ∙ w'.if-not-is_eq.true
          ])
          ∙ ap Some (sym w.place-is)
      | else-i-eq0+else-not-is_eq w ↦
          let y = w.index-entries-i-else-i-eq0.result in
          same_place items es y x (ap is_eq (sym (rw c.as_slice-text.ensures at w.compare.ensures)) ∙ sym w.is_eq.ensures ∙ w.if-not-is_eq.false)
          ∙ ap (place_of items es) w.index-entries-i-else-i-eq0.is ∙ c.loop-i.invariant.last (i - 1) y (omega (arith, w.if-i-eq0.false))
          ∙ ap Some (sym w.place-is)
    ] in
    record {
      many = search rules;
      before = placed_next items c.requires.texts.0 es c.loop-i.places.items i x c.if-i-eq0.place c.requires.texts.2 c.requires.texts.1
          c.loop-i.invariant.many c.loop-i-test.true c.index-entries-i.is place c.loop-i.invariant.before;
      last = λ k e n.
          (let z : k ≡ i = omega (arith, n) in
          ap (λ j. place_of items es (get_or es j e)) z ∙ place_at items es i x c.if-i-eq0.place c.loop-i-test.true c.index-entries-i.is place e);
    }
