use Rattle.std.proofs.Common.{◌≡◌, ℕ, true}
use Rattle.std.specs.List.{list_all}
use Rattle.al_expr_types.specs.Types.{is_below}
use Rattle.al_expr_types.proofs.PrefixLemmas.{IsAfter}
use Rattle.al_expr_types.proofs.prefixes.new_types.Given as goal

abbrev pub invariant-loop-i : goal.invariant-loop-i
invariant-loop-i l = record {
  part : IsAfter l.types l.from l.own.items l.i;
  below : (k : ℕ) → list_all (is_below k) l.types ≡ true → list_all (is_below k) l.own.items ≡ true;
}
