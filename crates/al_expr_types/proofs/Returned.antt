-- What a function ensures that returns the result of a call as it is.
use Rattle.std.proofs.Common.{List, Result, Ok, Err}
use Rattle.std.specs.Prelude.{IfOk, OnOk}
use Rattle.al_base.specs.Growth.{BeginsWith}
use Rattle.al_base.proofs.Growing.{begins_trans}

pub both_ok : {T E : Type 0} {P Q R : T → Type 0} (r : Result T E) → IfOk r P → IfOk r Q → ((t : T) → P t → Q t → R t) → IfOk r R
both_ok (Ok t) p q f = f t p q
both_ok (Err e) p q f = tt

pub begins_ok : {X T E : Type 0} (r : Result T E) (old mid new : List X) → BeginsWith mid old → OnOk r (BeginsWith new mid) → OnOk r (BeginsWith new old)
begins_ok (Ok t) old mid new a b = begins_trans old mid new a b
begins_ok (Err e) old mid new a b = tt
