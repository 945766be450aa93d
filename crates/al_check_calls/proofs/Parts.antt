-- The faults of one kind for all elements, then those of another kind, are as a set both kinds for each element.
use Rattle.std.proofs.Common.{◌≡◌, List, ◌++◌, append_assoc}
use Rattle.std.specs.List.{flat_map}
use Rattle.al_base.proofs.Growing.{same_set}
use Rattle.al_base.proofs.Sets.{set_after, set_more, set_split, set_sym, set_trans}
use Rattle.al_base.specs.Growth.{SameSet}

pub in_parts : {X Y : Type 0} (f g h : X → List Y) → ((x : X) → f x ≡ g x ++ h x) → (xs : List X) (old mid new : List Y) →
    SameSet mid (old ++ flat_map g xs) → SameSet new (mid ++ flat_map h xs) → SameSet new (old ++ flat_map f xs)
in_parts f g h each xs old mid new first second =
    let gs = flat_map g xs in
    let hs = flat_map h xs in
    let all = flat_map f xs in
    let split = set_split f g h (λ x. same_set _ _ (each x)) xs in
    set_trans new (mid ++ hs) (old ++ all) second
    (set_trans (mid ++ hs) ((old ++ gs) ++ hs) (old ++ all) (set_more mid (old ++ gs) hs first)
    (set_trans ((old ++ gs) ++ hs) (old ++ (gs ++ hs)) (old ++ all) (same_set _ _ (append_assoc old gs hs))
    (set_after old (gs ++ hs) all (set_sym all (gs ++ hs) split))))
