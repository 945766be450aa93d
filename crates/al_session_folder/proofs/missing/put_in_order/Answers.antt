use Rattle.std.proofs.Common.{rules}
use Rattle.std.specs.Prelude.{bytes_eq}
use Rattle.std.proofs.lemmas.Fn.{dedup_same}
use Rattle.al_session_folder.proofs.Missings.{ordered_by}
use Rattle.al_session_folder.proofs.missing.put_in_order.Goals as goal

pub returns : goal.returns
returns c =
    ordered_by (λ p. p.now) c.args.paths.now.items c.sort_unstable_by.new.self.items c.dedup_by.new.self.items c.sort_unstable_by.ensures.permutation
    c.sort_unstable_by.ensures.sorted (λ a r q k. search rules)
    (dedup_same _ (λ p q. bytes_eq p.now q.now) _ (λ x y b f' x' y' k. search rules) _ _ c.dedup_by.ensures.filtered)
