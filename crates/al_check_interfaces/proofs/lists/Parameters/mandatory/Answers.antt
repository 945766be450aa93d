use Rattle.std.proofs.Common.{◌≡◌, ◌∙◌, ap, map, subst, IfOk}
use Rattle.std.proofs.lemmas.Iterator.{YieldsList-from_slice}
use Rattle.std.proofs.lemmas.Iterator.Consumers.{map_from_collect}
use Rattle.al_check_interfaces.specs.Parameters.{mandatory_of}
use Rattle.al_check_interfaces.proofs.lists.Parameters.mandatory.Goals as goal

pub returns : goal.returns
returns c =
    subst (λ ps. IfOk c.collect.result (λ v. map (λ p. p.now) v.items ≡ ps)) (c.self.invariant.1 ∙ ap mandatory_of c.self.view_is)
    (map_from_collect _ c.collect.ensures.ran (YieldsList-from_slice c.self.inside.mandatory.items cc))
