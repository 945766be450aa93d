-- Why putting files stopped.
use Rattle.std.specs.Prelude.{◌≡◌, ℕ, List}
use Rattle.al_base.specs.declared.stops.Stop.TheVariants.{Memory}
use Rattle.al_session.specs.Folder.{Folder}
use Rattle.al_cli.specs.declared.linted.Fatal.{Fatal}
use Rattle.al_cli.specs.declared.linted.Fatal.TheVariants as fatal
use Rattle.al_cli.specs.Linted.{IsFirstRefused}

-- this file is the first that is refused, or memory ran out
abbrev pub PutsStop : Folder → List (List ℕ × List ℕ) → Fatal → Type 0
PutsStop folder files (fatal.Refused index refused) = IsFirstRefused folder files index refused
PutsStop folder files (fatal.Stopped stop) = stop ≡ Memory
