use Rattle.std.proofs.Common.{◌≡◌, drop}
use Rattle.al_expr_typing.specs.Placeholders.{used_arguments}
use Rattle.al_expr_typing.specs.Private.PlaceholderStates.{used_from}
use Rattle.al_expr_typing.specs.Private.PlaceholderViews.{IsSmall}
use Rattle.al_expr_typing.proofs.placeholders.used_arguments.Given as goal

abbrev pub invariant-loop-byte : goal.invariant-loop-byte
invariant-loop-byte l = record {
  small : IsSmall l.state;
  so_far : used_from l.state l.used.items (drop l.byte-index l.byte-items) ≡ used_arguments l.fn.count l.fn.text;
}
