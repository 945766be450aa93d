-- The states of the code that reads a format text, for private contracts. `Placeholders` defines
-- what its placeholders are, and `proofs/PlaceholderLemmas` proves that the two agree.
use Rattle.std.specs.Prelude.{ℕ, ◌+◌, ◌*◌, ◌-◌, List, [], ◌∷◌, Bool, true, ◌==◌, nat_lt}
use Rattle.std.specs.Prelude.{if◌then◌else◌, Option, Some, None, length}
use Rattle.std.specs.Prelude.{slice_set}
use Rattle.al_base.specs.Ascii.{ascii}
use Rattle.std.specs.Char.{is_ascii_digit}
use Rattle.al_expr_typing.specs.declared.placeholders.PlaceholderState.{PlaceholderState}
use Rattle.al_expr_typing.specs.declared.placeholders.PlaceholderState.TheVariants.{Outside}
use Rattle.al_expr_typing.specs.declared.placeholders.PlaceholderState.TheVariants.{AfterOpening}
use Rattle.al_expr_typing.specs.declared.placeholders.PlaceholderState.TheVariants.{InIndex}
use Rattle.al_expr_typing.specs.declared.placeholders.PlaceholderState.TheVariants.{AfterClosing}
use Rattle.al_expr_typing.specs.declared.placeholders.Turn.{Turn}
use Rattle.al_expr_typing.specs.declared.placeholders.Turn.TheVariants.{To, Names, Wrong}

-- the transition on a byte
abbrev pub turn : PlaceholderState → ℕ → Turn
turn Outside b =
    if b == ascii "{" then To AfterOpening else if b == ascii "}" then To AfterClosing
    else To Outside
turn AfterOpening b =
    if b == ascii "{" then To Outside else if is_ascii_digit b then
    To (InIndex (b - ascii "0")) else Wrong
turn (InIndex n) b =
    if is_ascii_digit b then To (InIndex (10 * n + (b - ascii "0"))) else if b == ascii "}" then
    Names n else Wrong
turn AfterClosing b = if b == ascii "}" then To Outside else Wrong

abbrev pub after_turn : Turn → List Bool → (PlaceholderState → List Bool → Option (List Bool))
    → Option (List Bool)
after_turn (To p) used go = go p used
after_turn (Names n) used go =
    if nat_lt n (length used) then go Outside (slice_set used n true) else None
after_turn Wrong used go = None

abbrev pub used_from : PlaceholderState → List Bool → List ℕ → Option (List Bool)
used_from Outside used [] = Some used
used_from _ used [] = None
used_from p used (b ∷ bs) = after_turn (turn p b) used (λ q now. used_from q now bs)
