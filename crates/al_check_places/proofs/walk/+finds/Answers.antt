use Rattle.std.proofs.Common.{◌≡◌, ◌+◌, [], ◌∷◌, ◌++◌, arith, false, ap, append-nil, append_assoc, refl, drop, map, rules, sym, take, tests, ◌∙◌}
use Rattle.std.proofs.lemmas.Iterator.{YieldsList-from_slice}
use Rattle.std.proofs.lemmas.Iterator.Search.{any_from_yields_List}
use Rattle.al_yaml_tree.specs.View.{entries_of, entry_view}
use Rattle.al_tree.proofs.KeyLemmas.{all_keys}
use Rattle.al_tree.proofs.Lists.{left_next, text_there, texts_next}
use Rattle.al_tree.specs.Faults.{mapping_shape, standing}
use Rattle.al_tree.specs.Keys.{key_of, keys_in}
use Rattle.al_base.specs.Names.{among}
use Rattle.al_tree.specs.Table.{keys_view, rule, rule_view}
use Rattle.al_check_places.specs.Places.{entry_places, place_of, places_of_node, places_of_entries, rule_or_any}
use Rattle.al_check_places.specs.Ways.{under, way_step_view}
use Rattle.al_check_places.specs.Private.Walks.{may_have_expression}
use Rattle.al_check_places.proofs.Nodes.{places_of_mapping}
use Rattle.al_check_places.proofs.Passed.{no_place, no_places}
use Rattle.al_check_places.proofs.walk.+finds.Goals as goal
use Rattle.al_check_places.proofs.walk.+finds.Goals.{find_entries-else-may_have_expression, find_entries-then-may_have_expression+in_ok-find_entry}

pub find-returns-in-Mapping-clause-found : goal.find-returns-in-Mapping-clause-found
find-returns-in-Mapping-clause-found t c =
    let es = c.in-Mapping.entries.items in
    let kind = c.args.walk.now.kind in
    let way = map way_step_view c.args.walk.now.way.steps.items in
    let taken : rule_or_any (rule (mapping_shape c.args.shape (map entry_view es))) ≡ rule_view c.rule_at-in-Mapping.result =
    cc (c.refine.ensures, c.as_slice-in-Mapping.ensures.value, c.rule_at-in-Mapping.ensures) in
    let same = places_of_mapping kind c.args.shape c.args.is_item way c.args.node.now c.in-Mapping.entries c.in-Mapping.span c.in-Mapping.is
    ∙ ap (λ r. places_of_entries kind r.keys_of [] (among (keys_in (map entry_view es))) way (entries_of (map entry_view es))) taken in
    let here = rw c.as_slice-in-Mapping-2.ensures.value at c.find_entries.ensures.found in
    rw same here

pub find_entries-returns-then-not-any-clause-found : goal.find_entries-returns-then-not-any-clause-found
find_entries-returns-then-not-any-clause-found t c =
    let kind = c.args.walk.now.kind in
    let es = c.args.entries.now in
    let any = any_from_yields_List (λ e. may_have_expression (entry_view e)) _ _ c.any.result c.any.ensures.ran (YieldsList-from_slice es c.iter.ensures.rest)
    (λ x b q k. search (rules, tests)) in
    let none = no_places kind (keys_view c.args.takes) [] (among (keys_in (map entry_view es))) (map way_step_view c.args.walk.now.way.steps.items) es
    (sym any ∙ c.if-not-any.true) in
    rw (none, append-nil (map place_of c.args.walk.now.found.items)) refl

pub find_entries-loop-i-preserved : goal.find_entries-loop-i-preserved
find_entries-loop-i-preserved t c =
    let es = c.args.entries.now in
    let i = c.loop-i.i in
    let e = c.index-entries-i.result in
    let all = among (keys_in (map entry_view es)) in
    let ks = keys_view c.args.takes in
    let kind = c.args.walk.now.kind in
    let way = map way_step_view c.args.walk.now.way.steps.items in
    let before = keys_in (map entry_view (take i es)) in
    let left = map entry_view (drop (i + 1) es) in
    let more = texts_next key_of entry_view es i e c.loop-i-test.true c.index-entries-i.is in
    let rest = left_next entry_view es i e c.loop-i-test.true c.index-entries-i.is in
    let st = standing ks (among before) all (key_of (entry_view e)) in
    let out = map place_of c.loop-i.walk.found.items in
    let here = entry_places st (λ s. places_of_node kind s false (way ++ under (key_of (entry_view e)) ∷ []) (entry_view e).1) in
    let walk = c.if-may_have_expression.walk in
    let read : (map place_of walk.found.items ≡ out ++ here) × (walk.way.steps.items ≡ c.loop-i.walk.way.steps.items) × (walk.kind ≡ c.loop-i.walk.kind) =
    elim c.if-may_have_expression.branch [
      | find_entries-then-may_have_expression+in_ok-find_entry w ↦
          let all_of = all_keys c.in_ok-index.index c.first-all.result es _ c.in_ok-index.ensures c.first-all.ensures (omega arith) in
          let key = w.key_at.ensures.key
          ∙ text_there key_of entry_view c.in_ok-index.index.entries.now es i e c.in_ok-index.ensures.0 c.loop-i-test.true c.index-entries-i.is in
          let stands = rw (w.key_at.ensures.seen, c.in_ok-index.ensures.1, all_of, key) at w.standing_of-standing.ensures in
          let found = rw (stands, c.loop-i.invariant.kind, c.loop-i.invariant.way) at w.in_ok-find_entry.ensures.found in
          rw w.walk-is (found, w.in_ok-find_entry.ensures.way, w.in_ok-find_entry.ensures.kind)
      | find_entries-else-may_have_expression w ↦
          let none = no_place kind st way (entry_view e).0 (entry_view e).1 (sym c.may_have_expression.ensures ∙ w.if-may_have_expression.false) in
          rw (w.walk-is, none, append-nil out) (refl, refl, refl)
    ] in
    record {
      found = rw (read.0, more, append_assoc out here) (rw rest at c.loop-i.invariant.found);
      way = read.1 ∙ c.loop-i.invariant.way;
      kind = read.2 ∙ c.loop-i.invariant.kind;
    }
