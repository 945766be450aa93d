-- The result of answering the waiting bytes.
use Rattle.std.specs.Prelude.{ℕ, ◌≤◌, List, ◌++◌, length, drop, codes, Option}
use Rattle.std.specs.Io.KnownBytes.{Appends}
use Rattle.al_cli_scripts.specs.Script.{IsWrong, IsPending}
use Rattle.al_cli_scripts.specs.Runs.{Steps, Served, PutsPrefix}
use Rattle.al_cli_scripts.specs.declared.run.Progress.{Progress}
use Rattle.al_cli_scripts.specs.declared.run.Progress.TheVariants.{Waits, Bad}

-- each whole command was answered, and so was a wrong rest
abbrev pub Progresses : {F : Type 0} → Steps F → F → F → List ℕ → Progress → Option (List ℕ)
    → Option (List ℕ) → Type 0
Progresses steps start folder waiting (Waits done) wrote now = (replies : List ℕ)
    × Served steps start waiting folder replies (drop done waiting) × IsPending (drop done waiting)
    × (done ≤ length waiting)
    × Appends wrote now replies
Progresses {F} steps start folder waiting Bad wrote now = (replies : List ℕ) × (rest : List ℕ)
    × Served steps start waiting folder replies rest × IsWrong rest
    × Appends wrote now (replies ++ codes "bad command\n")

-- Whatever bytes follow, a prefix of the script's output was written.
abbrev pub IsStuck : {F : Type 0} → Steps F → F → List ℕ → Option (List ℕ)
    → Option (List ℕ) → Type 0
IsStuck steps start waiting wrote now =
    (more : List ℕ) → PutsPrefix steps start (waiting ++ more) wrote now
