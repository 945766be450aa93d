use Rattle.std.proofs.Common.{◌≡◌, ◌∙◌, IfOk, ap, map, subst}
use Rattle.al_base.specs.NamePlaces.{TellsFirsts, is_first_name, name_place}
use Rattle.al_tree.specs.Keys.{keys_in}
use Rattle.al_tree.specs.Values.{member_of}
use Rattle.al_tree.proofs.values.member_positions.Goals as goal

pub returns-clause-first : goal.returns-clause-first
returns-clause-first c =
    let all : map (λ k. k.now) c.as_slice.result.now ≡ keys_in (map member_of c.args.members.now) =
    ap (map (λ k. k.now)) c.as_slice.ensures.value ∙ c.in_ok-keys.ensures in
    subst (λ ks. IfOk c.of.result (λ p. TellsFirsts (name_place ks) ks (is_first_name p))) all c.of.ensures.first
