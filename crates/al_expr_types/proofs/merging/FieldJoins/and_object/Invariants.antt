use Rattle.std.proofs.Common.{◌≡◌, ℕ, List, map, take, true}
use Rattle.std.specs.List.{list_all}
use Rattle.std.specs.Prelude.{zip}
use Rattle.al_types.specs.Types.{Parts, field_at, fuse_optional, optional}
use Rattle.al_expr_types.specs.Merging.{are_joins_below, found_in}
use Rattle.al_expr_types.specs.Names.{names_in}
use Rattle.al_expr_types.specs.Types.{is_below, type_in}
use Rattle.al_expr_types.proofs.merging.FieldJoins.and_object.Given as goal

abbrev pub invariant-loop-i : goal.invariant-loop-i
invariant-loop-i l = record {
  found : (ms : List Parts) (n : List ℕ) → found_in ms l.all n
      ≡ fuse_optional (found_in ms l.fn.self n) (optional (field_at n (zip (names_in l.map.names) (take l.i (map (type_in ms) l.ty-items)))));
  below : (k : ℕ) → list_all (is_below k) l.ty-items ≡ true → are_joins_below k l.fn.self ≡ true → are_joins_below k l.all ≡ true;
}
