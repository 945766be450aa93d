use Rattle.std.proofs.Common.{List, ℕ, rules}
use Rattle.std.proofs.lemmas.List.{map-id}
use Rattle.std.specs.Prelude.{bytes_eq}
use Rattle.std.proofs.lemmas.Fn.{dedup_same}
use Rattle.al_session_folder.proofs.Missings.{ordered_by}
use Rattle.al_session_folder.proofs.paths.put_paths_in_order.Goals as goal

pub returns : goal.returns
returns c =
    simp map-id at (ordered_by (λ (p : List ℕ). p) c.args.paths.now.items c.sort_unstable_by.new.self.items c.dedup_by.new.self.items c.sort_unstable_by.ensures.permutation
    c.sort_unstable_by.ensures.sorted (λ a r q k. search rules)
    (dedup_same _ bytes_eq _ (λ x y b f' x' y' k. search rules) _ _ c.dedup_by.ensures.filtered))
