use Rattle.std.proofs.Common.{◌-◌, ◌∙◌, ◌&&◌, [], ap, arith, map, sym, take}
use Rattle.std.proofs.Math.Bool.{and-false, and-true}
use Rattle.std.proofs.lemmas.List.{length-map}
use Rattle.al_check_places.specs.Paths.{is_path_prefix, key_view}
use Rattle.al_check_places.proofs.Prefixes.{too_long, without_key}
use Rattle.al_check_places.proofs.table.begins_keys.Goals as goal

pub returns-then-path-keys : goal.returns-then-path-keys
returns-then-path-keys c =
    let path = c.args.path.now in
    let keys = c.args.keys.now in
    sym (too_long (map key_view path) (map (λ k. k.now) keys) (omega (arith, c.if-path-keys.true, length-map path key_view, length-map keys (λ k. k.now))))

pub returns-then-not-key_fits : goal.returns-then-not-key_fits
returns-then-not-key_fits c =
    let path = c.args.path.now in
    let keys = c.args.keys.now in
    let n = c.keys.count in
    let first = is_path_prefix (map key_view (take (n - 1) path)) (map (λ k. k.now) keys) in
    sym (c.keys.invariant.begins
    ∙ without_key path keys n _ (record { ref_ptr = (0, 0); now = [] }) c.key_fits.result c.keys-test.true c.keys.invariant.inside c.if-path-keys.false c.key_fits.ensures
    ∙ ap (λ b. first && b) c.if-not-key_fits.true ∙ and-false first)

pub keys-preserved : goal.keys-preserved
keys-preserved c =
    let path = c.args.path.now in
    let keys = c.args.keys.now in
    let n = c.keys.count in
    let first = is_path_prefix (map key_view (take (n - 1) path)) (map (λ k. k.now) keys) in
    record {
      inside = omega (arith, c.keys.invariant.inside);
      begins = c.keys.invariant.begins
          ∙ without_key path keys n _ (record { ref_ptr = (0, 0); now = [] }) c.key_fits.result c.keys-test.true c.keys.invariant.inside c.if-path-keys.false c.key_fits.ensures
          ∙ ap (λ b. first && b) c.if-not-key_fits.false ∙ and-true first;
    }
