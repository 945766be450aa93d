use Rattle.std.proofs.Common.{◌≡◌, ◌∙◌, ◌∷◌, ◌++◌, [], ap, length, map, sym}
use Rattle.std.proofs.lemmas.Bool.{lt-ltb}
use Rattle.al_types.specs.Fused.{fuse_all}
use Rattle.al_expr_types.specs.Types.{object_in, parts_of_all}
use Rattle.al_expr_types.proofs.Below.{numbers_same}
use Rattle.al_expr_types.proofs.Keeping.{has_old}
use Rattle.al_expr_types.proofs.ObjectLists.{middle_as_one, middle_below, three_below}
use Rattle.al_expr_types.proofs.types.Types.grouped.Goals as goal

pub returns-clause-common : goal.returns-clause-common
returns-clause-common c =
    let old = c.args.self.now.objects.items in
    let new = c.object_of.new.self.objects.items in
    let f = object_in (parts_of_all old) in
    let g = object_in (parts_of_all new) in
    let all = c.args.flat.items in
    let front = c.split_at.result.0.now in
    let others = c.split_at.result.1.now in
    let middle = c.split_at-2.result.0.now in
    let last = c.split_at-2.result.1.now in
    let n = c.in_ok-block.block in
    let outer : all ≡ front ++ others = sym c.as_slice-2.ensures.value ∙ c.split_at.ensures.by_index.0 in
    let inner : others ≡ middle ++ last = c.split_at-2.ensures.by_index.0 in
    let below = three_below (length old) all front others middle last outer inner c.requires in
    let has = has_old new old c.in_ok-block.ensures.kept in
    let fronts = numbers_same (parts_of_all new) (parts_of_all old) (length old) (length new) has front below.0 in
    let lasts = numbers_same (parts_of_all new) (parts_of_all old) (length old) (length new) has last below.2 in
    let is = c.in_ok-block.ensures.object ∙ ap (λ l. fuse_all (map f l)) c.in_ok-from_slice.ensures.items in
    let made =
    c.in_ok-extend_from_slice.ensures.items
    ∙ ap (λ l. l ++ last) (c.in_ok-push.ensures.items ∙ ap (λ l. l ++ n ∷ []) c.in_ok-list.ensures.items) in
    middle_as_one f g all front others middle last c.extend_from_slice.new.self.items n outer inner fronts.1 lasts.1 is made

pub returns-clause-below : goal.returns-clause-below
returns-clause-below c =
    let old = c.args.self.now.objects.items in
    let new = c.object_of.new.self.objects.items in
    let front = c.split_at.result.0.now in
    let others = c.split_at.result.1.now in
    let middle = c.split_at-2.result.0.now in
    let last = c.split_at-2.result.1.now in
    let n = c.in_ok-block.block in
    let outer : c.args.flat.items ≡ front ++ others = sym c.as_slice-2.ensures.value ∙ c.split_at.ensures.by_index.0 in
    let below = three_below (length old) c.args.flat.items front others middle last outer c.split_at-2.ensures.by_index.0 c.requires in
    let has = has_old new old c.in_ok-block.ensures.kept in
    let fronts = numbers_same (parts_of_all new) (parts_of_all old) (length old) (length new) has front below.0 in
    let lasts = numbers_same (parts_of_all new) (parts_of_all old) (length old) (length new) has last below.2 in
    let made =
    c.in_ok-extend_from_slice.ensures.items
    ∙ ap (λ l. l ++ last) (c.in_ok-push.ensures.items ∙ ap (λ l. l ++ n ∷ []) c.in_ok-list.ensures.items) in
    middle_below (length new) front last c.extend_from_slice.new.self.items n fronts.0 lasts.0 (lt-ltb n (length new) c.in_ok-block.ensures.there) made
