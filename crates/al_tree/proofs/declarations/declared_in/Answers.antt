use Rattle.std.proofs.Common.{◌≡◌, ◌++◌, ◌∷◌, [], ap, append-nil, map, not, refl, sym, take, ◌∙◌, if◌then◌else◌}
use Rattle.std.proofs.Math.Bool.{not-not}
use Rattle.std.proofs.lemmas.List.{map-append}
use Rattle.al_base.specs.Names.{same_name}
use Rattle.al_tree.proofs.KeyLemmas.{none_at, told_first}
use Rattle.al_tree.proofs.Lists.{firsts_next, text_there}
use Rattle.al_tree.specs.Keys.{key_of, keys_in}
use Rattle.al_tree.specs.Values.{member_of}
use Rattle.al_tree.specs.Declarations.{named_among}
use Rattle.al_tree.proofs.declarations.declared_in.Goals.{then-is_first+in_ok-push, else-is_first}
use Rattle.al_tree.proofs.declarations.declared_in.Goals as goal

pub loop-i-preserved : goal.loop-i-preserved
loop-i-preserved c =
    let members = c.as_slice-members.result.now in
    let i = c.loop-i.i in
    let member = c.index-members-i.result in
    let key = key_of (member_of member) in
    let before = keys_in (map member_of (take i members)) in
    let out = map member_of c.loop-i.found.items in
    let new : c.is_first.result ≡ not (named_among before key) =
    c.is_first.ensures
    ∙ told_first key_of member_of members i key _ c.in_ok-positions.ensures.first c.loop-i-test.true
    (text_there key_of member_of members members i member refl c.loop-i-test.true c.index-members-i.is)
    ∙ none_at (λ m. same_name m key) before in
    let repeats : not c.is_first.result ≡ named_among before key = ap not new ∙ not-not (named_among before key) in
    let added : map member_of c.if-is_first.found.items ≡ out ++ (if not c.is_first.result then [] else member_of member ∷ []) =
    elim c.if-is_first.branch [
      | then-is_first+in_ok-push w ↦
          ap (λ v. map member_of v.items) w.found-is ∙ ap (map member_of) w.in_ok-push.ensures.items
          ∙ map-append member_of c.loop-i.found.items (member ∷ [])
          ∙ ap (λ b. out ++ (if not b then [] else member_of member ∷ [])) (sym w.if-is_first.true)
      | else-is_first w ↦
          ap (λ v. map member_of v.items) w.found-is ∙ sym (append-nil out)
          ∙ ap (λ b. out ++ (if not b then [] else member_of member ∷ [])) (sym w.if-is_first.false)
    ] in
    firsts_next named_among member_of members i member out _ _ c.loop-i-test.true c.index-members-i.is repeats added ∙ c.loop-i.invariant
