-- An index that is too large never names an argument, whatever follows.
use Rattle.std.proofs.Common.{◌≡◌, ℕ, ◌≤◌, ◌+◌, ◌*◌, ◌-◌, List, [], ◌∷◌, Bool, true, false, length, nat_eq, Option, None, refl, ap, arith}
use Rattle.std.specs.Prelude.{if◌then◌else◌, slice_set}
use Rattle.std.proofs.lemmas.Bool.{le-ltb}
use Rattle.al_expr_typing.specs.declared.placeholders.PlaceholderState.{PlaceholderState}
use Rattle.al_expr_typing.specs.declared.placeholders.PlaceholderState.TheVariants.{Outside, InIndex}
use Rattle.al_expr_typing.specs.declared.placeholders.Turn.TheVariants.{To, Names, Wrong}
use Rattle.std.specs.Char.{is_ascii_digit}
use Rattle.al_expr_typing.specs.Private.PlaceholderStates.{after_turn, used_from}

pub names_none : (n : ℕ) (used : List Bool) (go : PlaceholderState → List Bool → Option (List Bool)) → length used ≤ n → after_turn (Names n) used go ≡ None
names_none n used go h = ap (λ b. if b then go Outside (slice_set used n true) else None) (le-ltb n (length used) h)

too_large_step : (d q : Bool) (n m : ℕ) (used : List Bool) (bs : List ℕ) → length used ≤ n → used_from (InIndex m) used bs ≡ None
    → after_turn (if d then To (InIndex m) else if q then Names n else Wrong) used (λ p now. used_from p now bs) ≡ None
too_large_step true q n m used bs h e = e
too_large_step false true n m used bs h e = names_none n used (λ p now. used_from p now bs) h
too_large_step false false n m used bs h e = refl

pub too_large : (n : ℕ) (used : List Bool) (bs : List ℕ) → length used ≤ n → used_from (InIndex n) used bs ≡ None
too_large n used [] h = refl
too_large n used (b ∷ bs) h = too_large_step (is_ascii_digit b) (nat_eq b 125) n (10 * n + (b - 48)) used bs h (too_large (10 * n + (b - 48)) used bs (omega arith))
