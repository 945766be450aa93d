-- A bound on the index in a state of the code that reads a format text.
use Rattle.std.specs.Prelude.{◌<◌, ◌^◌}
use Rattle.al_expr_typing.specs.declared.placeholders.PlaceholderState.{PlaceholderState}
use Rattle.al_expr_typing.specs.declared.placeholders.PlaceholderState.TheVariants.{InIndex}

-- an index below 2 ^ 64, so that one more digit doesn't overflow
abbrev pub IsSmall : PlaceholderState → Type 0
IsSmall (InIndex n) = n < 2 ^ 64
IsSmall _ = Unit {0}
