use Rattle.std.proofs.Common.{◌≡◌, arith, ap, ◌∙◌, ◌+◌, ◌∷◌, ◌++◌, [], List, append_assoc, drop, false, map, sym, take}
use Rattle.al_base.specs.declared.faults.Fault.{Fault}
use Rattle.al_yaml_tree.specs.View.{entries_of, entry_view, nodes_of, view}
use Rattle.al_tree.specs.Faults.{entries_faults, entry_faults, faults, items_faults, Standing, standing, standing_view, takes_null}
use Rattle.al_tree.specs.Keys.{holds, key_of, keys_in}
use Rattle.al_base.specs.Names.{among}
use Rattle.al_tree.specs.Table.{keys_view}
use Rattle.al_tree.proofs.KeyLemmas.{all_keys}
use Rattle.al_tree.proofs.Lists.{left_next, text_there, texts_next}
use Rattle.al_tree.proofs.Shapes.{faults_mapping}
use Rattle.al_tree.proofs.check.+checks.Goals as goal

pub check-returns-in-Mapping : goal.check-returns-in-Mapping
check-returns-in-Mapping t c =
    let demand = c.args.demand in
    let same = faults_mapping demand.shape demand.takes_null demand.above.now c.args.node.now c.in-Mapping.entries c.in-Mapping.span c.in-Mapping.is in
    let here = rw c.as_slice-in-Mapping.ensures.value at c.check_mapping.ensures in
    rw same here

pub check_items-loop-node-preserved : goal.check_items-loop-node-preserved
check_items-loop-node-preserved t c =
    let ns = c.args.nodes.now in
    let i = c.loop-node.node-index in
    let n = c.node-item.result in
    let out = c.loop-node.faults in
    let left = map view (drop (i + 1) ns) in
    let rest = left_next view ns i n c.loop-node-test.true c.node-item.is in
    ap (λ l. l ++ items_faults c.args.shape c.args.above.now (nodes_of left)) c.in_ok-check.ensures
    ∙ append_assoc out (faults c.args.shape false c.args.above.now (view n)) (items_faults c.args.shape c.args.above.now (nodes_of left))
    ∙ ap (λ l. out ++ items_faults c.args.shape c.args.above.now (nodes_of l)) (sym rest)
    ∙ c.loop-node.invariant

pub check_entries-loop-i-preserved : goal.check_entries-loop-i-preserved
check_entries-loop-i-preserved t c =
    let es = c.args.entries.now in
    let i = c.loop-i.i in
    let e = c.index-entries-i.result in
    let all = among (keys_in (map entry_view es)) in
    let ks = keys_view c.args.keys in
    let before = keys_in (map entry_view (take i es)) in
    let left = map entry_view (drop (i + 1) es) in
    let out = c.loop-i.faults in
    let more = texts_next key_of entry_view es i e c.loop-i-test.true c.index-entries-i.is in
    let rest = left_next entry_view es i e c.loop-i-test.true c.index-entries-i.is in
    let stands : standing_view c.standing_of-standing.result ≡ standing ks (among before) all (key_of (entry_view e)) =
    c.standing_of-standing.ensures
    ∙ ap (λ f. standing ks f (holds c.first-all.result) c.key_at.result.key.now) (c.key_at.ensures.seen ∙ ap (λ f. f i) c.requires.1)
    ∙ ap (λ f. standing ks (among before) f c.key_at.result.key.now)
    (all_keys c.args.index.now c.first-all.result es _ c.requires c.first-all.ensures (omega arith))
    ∙ ap (standing ks (among before) all) (c.key_at.ensures.key ∙ text_there key_of entry_view c.args.index.now.entries.now es i e c.requires.0 c.loop-i-test.true c.index-entries-i.is) in
    let here : Standing → List Fault = λ st. entry_faults st (entry_view e).0 (λ s. faults s (takes_null s) (key_of (entry_view e)) (entry_view e).1) in
    let after : List _ → List Fault = λ ks'. entries_faults ks ks' all (entries_of left) in
    ap (λ l. l ++ after (keys_in (map entry_view (take (i + 1) es)))) c.in_ok-check_entry.ensures
    ∙ ap (λ st. (out ++ here st) ++ after (keys_in (map entry_view (take (i + 1) es)))) stands
    ∙ ap (λ before'. (out ++ here (standing ks (among before) all (key_of (entry_view e)))) ++ after before') more
    ∙ append_assoc out (here (standing ks (among before) all (key_of (entry_view e)))) (after (before ++ key_of (entry_view e) ∷ []))
    ∙ ap (λ l. out ++ entries_faults ks before all (entries_of l)) (sym rest)
    ∙ c.loop-i.invariant
