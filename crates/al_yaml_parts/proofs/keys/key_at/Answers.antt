use Rattle.std.proofs.Common.{rules, tests, ◌≡◌}
use Rattle.std.specs.Prelude.{option_map}
use Rattle.std.proofs.lemmas.Result.{err_from_is_err_and}
use Rattle.al_scalar.specs.Places.{lines_at}
use Rattle.al_yaml_tree.specs.Keys.{key_scalar}
use Rattle.al_yaml_parts.proofs.LineReadLemmas.{key-stops, key-seen}
use Rattle.al_yaml_parts.proofs.keys.key_at.Goals as goal

pub returns-in_err-read-clause-is : goal.returns-in_err-read-clause-is
returns-in_err-read-clause-is c = let p = err_from_is_err_and c.from_residual.result c.from_residual.ensures.1 in
    rw (p.1, p.2) (key-stops (key_scalar (lines_at c.args.file.now.bytes.now c.args.at)) c.in_err-read.field-0.0 c.in_err-read.ensures.is)

pub returns-clause-is : goal.returns-clause-is
returns-clause-is c =
    let read = c.in_ok-read.read in
    let told : c.map.result ≡ option_map (λ after. record { read = read; after = after }) c.after_colon.result = search (rules, tests) in
    rw told (key-seen c.args.file.now.bytes.now (key_scalar (lines_at c.args.file.now.bytes.now c.args.at)) read c.after_colon.result c.in_ok-read.ensures.is c.after_colon.ensures)
