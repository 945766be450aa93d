use Rattle.std.proofs.Common.{◌≡◌, ◌+◌, ◌≤◌, false, length, map}
use Rattle.std.specs.List.{list_any}
use Rattle.al_check_places.specs.Availability.{table}
use Rattle.al_check_places.proofs.Longest.{begins, reaches}
use Rattle.al_check_places.proofs.table.available.Given as goal

-- no path with so many keys or more begins the keys
abbrev pub invariant-loop-count : goal.invariant-loop-count
invariant-loop-count l = record {
  inside : l.count ≤ length l.keys + 1;
  fewer : list_any (reaches (begins (map (λ k. k.now) l.keys)) l.count) table ≡ false;
}
