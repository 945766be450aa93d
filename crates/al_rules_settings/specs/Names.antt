-- The names of permissions, their values, and shells (GitHub, "Workflow syntax").
use Rattle.std.specs.Prelude.{ℕ, List, [], ◌∷◌, codes}

abbrev pub permissions : List (List ℕ)
permissions =
    codes "actions" ∷ codes "artifact-metadata" ∷ codes "attestations" ∷ codes "checks"
    ∷ codes "contents" ∷ codes "deployments" ∷ codes "discussions" ∷ codes "id-token"
    ∷ codes "issues" ∷ codes "models" ∷ codes "packages" ∷ codes "pages" ∷ codes "pull-requests"
    ∷ codes "repository-projects" ∷ codes "security-events" ∷ codes "statuses" ∷ []

abbrev pub shells : List (List ℕ)
shells =
    codes "bash" ∷ codes "sh" ∷ codes "pwsh" ∷ codes "powershell" ∷ codes "python"
    ∷ codes "cmd" ∷ []

abbrev pub scope_values : List (List ℕ)
scope_values = codes "read" ∷ codes "write" ∷ codes "none" ∷ []

abbrev pub whole_values : List (List ℕ)
whole_values = codes "read-all" ∷ codes "write-all" ∷ []
