use Rattle.std.proofs.Common.{◌∙◌, Some, ap, arith, rules, sym}
use Rattle.std.specs.Ordering.{is_eq, is_lt}
use Rattle.std.proofs.lemmas.List.{get_or_default}
use Rattle.std.proofs.lemmas.List.Sorted.{IsPartitionPoint-from_clause}
use Rattle.al_base.specs.SortedTexts.{entry_key, key_cmp}
use Rattle.al_base.proofs.SortedTexts.{parted_texts, position_found, position_other, position_past}
use Rattle.al_base.proofs.sorted_texts.position_by.Goals.{else-i-entries-via-then-i-entries+else-is_eq, else-i-entries-via-else-i-entries}
use Rattle.al_base.proofs.sorted_texts.position_by.Goals as goal

pub returns-then-is_eq : goal.returns-then-is_eq
returns-then-is_eq g c =
    let number = c.last_bytes-number.result in
    let text = c.args.text.now in
    let items = g.T.AsSlice.items in
    let point = IsPartitionPoint-from_clause (λ e. is_lt (key_cmp (entry_key items e) (number, text))) _ _ c.partition_point-i.ensures.partitioned
    (parted_texts items c.args.entries.now text number c.last_bytes-number.ensures c.requires) (λ a r q k. search rules) in
    ap (λ e. Some e.position) (get_or_default c.args.entries.now _ _ _ c.if-i-entries.true ∙ sym c.index-entries-i.is)
    ∙ position_found items c.args.entries.now text number c.last_bytes-number.ensures c.requires _ point c.index-entries-i.result
    c.if-i-entries.true c.index-entries-i.is (ap is_eq (sym c.compare.ensures) ∙ sym c.is_eq.ensures ∙ c.if-is_eq.true)

pub returns : goal.returns
returns g c =
    let number = c.last_bytes-number.result in
    let text = c.args.text.now in
    let items = g.T.AsSlice.items in
    let point = IsPartitionPoint-from_clause (λ e. is_lt (key_cmp (entry_key items e) (number, text))) _ _ c.partition_point-i.ensures.partitioned
    (parted_texts items c.args.entries.now text number c.last_bytes-number.ensures c.requires) (λ a r q k. search rules) in
    elim c.else-i-entries.branch [
      | else-i-entries-via-then-i-entries+else-is_eq w ↦
          position_other items c.args.entries.now text number c.last_bytes-number.ensures c.requires _ point w.index-entries-i.result
          w.if-i-entries.true w.index-entries-i.is (ap is_eq (sym w.compare.ensures) ∙ sym w.is_eq.ensures ∙ w.if-is_eq.false)
      | else-i-entries-via-else-i-entries w ↦
          position_past items c.args.entries.now text number c.last_bytes-number.ensures c.requires _ point (omega (arith, w.if-i-entries.false))
    ]
