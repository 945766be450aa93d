use Rattle.std.proofs.Common.{◌≡◌, ◌∷◌, ◌++◌, [], ap, append-nil, map, sym, take, ◌∙◌, if◌then◌else◌}
use Rattle.std.proofs.lemmas.List.{map-append}
use Rattle.al_yaml_tree.proofs.ViewLemmas.{entry_parts}
use Rattle.al_yaml_tree.specs.View.{entry_view}
use Rattle.al_tree.specs.Keys.{key_of, keys_in}
use Rattle.al_base.specs.Names.{among}
use Rattle.al_tree.specs.Values.{member_of}
use Rattle.al_tree.proofs.Lists.{firsts_next, text_there}
use Rattle.al_tree.proofs.values.members.Goals.{then-not-key_at+in_ok-push, else-not-key_at}
use Rattle.al_tree.proofs.values.members.Goals as goal

pub loop-i-preserved : goal.loop-i-preserved
loop-i-preserved c =
    let es = c.in-Some.entries.now in
    let i = c.loop-i.i in
    let e = c.index-entries-i.result in
    let before = keys_in (map entry_view (take i es)) in
    let members = map member_of c.loop-i.firsts.items in
    let repeats : c.key_at.result.is_repeated ≡ among before (key_of (entry_view e)) =
    c.key_at.result.told ∙ ap (λ f. f c.key_at.result.key.now) (c.key_at.ensures.seen ∙ ap (λ f. f i) c.in_ok-index.ensures.1)
    ∙ ap (among before) (c.key_at.ensures.key ∙ text_there key_of entry_view c.in_ok-index.index.entries.now es i e c.in_ok-index.ensures.0 c.loop-i-test.true c.index-entries-i.is) in
    let added : map member_of c.if-not-key_at.firsts.items ≡ members ++ (if c.key_at.result.is_repeated then [] else entry_view e ∷ []) =
    elim c.if-not-key_at.branch [
      | then-not-key_at+in_ok-push w ↦
          ap (λ v. map member_of v.items) w.firsts-is ∙ ap (map member_of) w.in_ok-push.ensures.items
          ∙ map-append member_of c.loop-i.firsts.items (_ ∷ [])
          ∙ ap (λ m. members ++ m ∷ []) (sym (entry_parts e))
          ∙ ap (λ b. members ++ (if b then [] else entry_view e ∷ [])) (sym w.if-not-key_at.true)
      | else-not-key_at w ↦
          ap (λ v. map member_of v.items) w.firsts-is ∙ sym (append-nil members)
          ∙ ap (λ b. members ++ (if b then [] else entry_view e ∷ [])) (sym w.if-not-key_at.false)
    ] in
    firsts_next among entry_view es i e members _ _ c.loop-i-test.true c.index-entries-i.is repeats added ∙ c.loop-i.invariant
