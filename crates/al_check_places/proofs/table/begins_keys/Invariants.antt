use Rattle.std.proofs.Common.{◌≡◌, ◌≤◌, length, map, take}
use Rattle.al_check_places.specs.Paths.{is_path_prefix, key_view}
use Rattle.al_check_places.proofs.table.begins_keys.Given as goal

abbrev pub invariant-keys : goal.invariant-keys
invariant-keys l = record {
  inside : l.count ≤ length l.path;
  begins : is_path_prefix (map key_view l.path) (map (λ k. k.now) l.keys) ≡ is_path_prefix (map key_view (take l.count l.path)) (map (λ k. k.now) l.keys);
}

abbrev pub decreases-keys : goal.decreases-keys
decreases-keys l = l.count
