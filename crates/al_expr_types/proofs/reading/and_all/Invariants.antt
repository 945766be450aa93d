use Rattle.std.proofs.Common.{◌≡◌, ℕ, List, map, take, true}
use Rattle.std.specs.List.{list_all}
use Rattle.al_types.specs.Types.{Parts, fuse_optional}
use Rattle.al_expr_types.specs.Joining.{is_join_below, join_in}
use Rattle.al_expr_types.specs.Types.{common_of, is_below, type_in}
use Rattle.al_expr_types.proofs.reading.and_all.Given as goal

abbrev pub invariant-loop-ty : goal.invariant-loop-ty
invariant-loop-ty l = record {
  part : (ms : List Parts) → join_in ms l.all ≡ fuse_optional (join_in ms l.initial.all) (common_of (map (type_in ms) (take l.ty-index l.types)));
  below : (n : ℕ) → list_all (is_below n) l.types ≡ true → is_join_below n l.initial.all ≡ true → is_join_below n l.all ≡ true;
}
