-- Lists after appends: their prefixes, and their elements as sets.
use Rattle.std.specs.Prelude.{Contains}
use Rattle.std.proofs.Common.{◌≡◌, List, [], ◌++◌, ◌∙◌, sym, ap, append_assoc, append-nil, subst}
use Rattle.al_base.specs.Growth.{BeginsWith, SameSet}

-- A list begins with itself, and still does after appends.
pub begins_by : {X : Type 0} (old new more : List X) → new ≡ old ++ more → BeginsWith new old
begins_by old new more e = record { more = more; is = e }

pub begins_same : {X : Type 0} (old new : List X) → new ≡ old → BeginsWith new old
begins_same old new e = record { more = []; is = e ∙ sym (append-nil old) }

pub begins_trans : {X : Type 0} (old mid new : List X) → BeginsWith mid old → BeginsWith new mid → BeginsWith new old
begins_trans old mid new a b = record { more = a.more ++ b.more; is = b.is ∙ ap (λ xs. xs ++ b.more) a.is ∙ append_assoc old a.more b.more }

pub ruleset growth = (begins_by, begins_same, begins_trans)

pub same_set : {X : Type 0} (xs ys : List X) → xs ≡ ys → SameSet xs ys
same_set xs ys e x = let P : List _ → Type 0 = λ l. Contains l x in (λ h. subst P e h, λ h. subst P (sym e) h)
