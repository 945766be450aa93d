use Rattle.std.proofs.Common.{◌≡◌, ◌∷◌, ◌++◌, ◌∙◌, [], ap, sym, map, length, arith}
use Rattle.std.proofs.lemmas.List.{length-map, map-append}
use Rattle.al_base.specs.NamePlaces.{name_place}
use Rattle.al_expr_types.proofs.NameIndexes.{placed_new}
use Rattle.al_expr_types.specs.Once.{are_once}
use Rattle.al_expr_types.specs.Names.{names_in}
use Rattle.al_expr_types.specs.Places.{IsNameIndex, place_by}
use Rattle.al_expr_types.proofs.OnceLemmas.{once_more}
use Rattle.al_expr_types.proofs.names.Names.push.Goals as goal
use Rattle.al_expr_types.proofs.names.Names.push.Goals.{in-Some+in_ok-insert-in-Some, in-None}

pub invariant_of-result : goal.invariant_of-result
invariant_of-result c =
    let items = c.args.self.names.items in
    let ns = names_in c.args.self in
    let n = c.args.name.now in
    let all : map (λ n. n.now) c.push.new.self.items ≡ ns ++ n ∷ [] =
    ap (map (λ n. n.now)) c.in_ok-push.ensures.items ∙ map-append (λ n. n.now) items (c.args.name ∷ []) in
    record {
      indexed = elim c.match-branch-2.branch [
        | in-Some+in_ok-insert-in-Some w ↦
            let long : w.len.result ≡ length ns = omega (arith, length-map items (λ n. n.now), w.len.ensures, c.args.self.names.ok.0) in
            let indexed : IsNameIndex w.in-Some.index ns =
            sym (ap (λ o. place_by o ns) w.in-Some.is) ∙ ap (λ xs. place_by c.in_ok-index.field-0 (map (λ n. n.now) xs)) (sym c.as_slice.ensures.value)
            ∙ c.in_ok-index.ensures ∙ ap (λ xs. name_place (map (λ n. n.now) xs)) c.as_slice.ensures.value in
            ap (λ o. place_by o (map (λ n. n.now) c.push.new.self.items)) w.index-is
            ∙ placed_new w.in-Some.index w.insert.new.self ns n w.len.result indexed long w.in_ok-insert-in-Some.ensures ∙ ap name_place (sym all)
        | in-None w ↦ ap (λ o. place_by o (map (λ n. n.now) c.push.new.self.items)) w.index-is
      ];
      once = ap are_once all ∙ once_more ns n c.requires c.args.self.once;
    }
