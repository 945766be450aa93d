use Rattle.std.proofs.Common.{◌≡◌, ◌++◌, map}
use Rattle.al_cli.specs.Private.Kept.{entries_in}
use Rattle.al_cli.specs.Taken.{owned_entry}
use Rattle.al_cli.proofs.taken.with_bytes.Given as goal

abbrev pub invariant-loop-path : goal.invariant-loop-path
invariant-loop-path l =
    map owned_entry l.list.items ++ entries_in l.files.folder l.path-iterator.rest.items ≡ entries_in l.files.folder l.fn.paths.items
