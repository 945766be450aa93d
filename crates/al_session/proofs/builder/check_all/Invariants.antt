use Rattle.std.proofs.Common.{◌≡◌, map, take}
use Rattle.std.specs.Prelude.{string_bytes}
use Rattle.al_session.proofs.builder.check_all.Given as goal

abbrev pub invariant-loop-index : goal.invariant-loop-index
invariant-loop-index g l = l.paths.items ≡ map (λ e. string_bytes e.0) (take l.index l.kept.files.entries)
