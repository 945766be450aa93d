-- The types of contexts that are the same in every file (GitHub, "Contexts reference").
use Rattle.std.specs.Prelude.{ℕ, List, [], ◌∷◌, codes}
use Rattle.al_types.specs.Types.{Type', Any, Number, Bool', Present, object_with}
use Rattle.al_types.specs.Strings.{strings}
use Rattle.al_check_objects.specs.Objects.{strictly}

abbrev pub github_names : List (List ℕ)
github_names =
    codes "action" ∷ codes "action_path" ∷ codes "action_ref" ∷ codes "action_repository"
    ∷ codes "action_status" ∷ codes "actor" ∷ codes "actor_id" ∷ codes "api_url"
    ∷ codes "artifact_cache_size_limit" ∷ codes "base_ref" ∷ codes "env" ∷ codes "event_name"
    ∷ codes "event_path" ∷ codes "graphql_url" ∷ codes "head_ref" ∷ codes "job" ∷ codes "output"
    ∷ codes "path" ∷ codes "ref" ∷ codes "ref_name" ∷ codes "ref_type" ∷ codes "repository"
    ∷ codes "repository_id" ∷ codes "repository_owner" ∷ codes "repository_owner_id"
    ∷ codes "repositoryUrl" ∷ codes "repository_visibility" ∷ codes "retention_days"
    ∷ codes "run_attempt" ∷ codes "run_id" ∷ codes "run_number" ∷ codes "secret_source"
    ∷ codes "server_url" ∷ codes "sha" ∷ codes "state" ∷ codes "step_summary" ∷ codes "token"
    ∷ codes "triggering_actor" ∷ codes "workflow" ∷ codes "workflow_ref" ∷ codes "workflow_sha"
    ∷ codes "workspace" ∷ []

abbrev pub github_type : Type'
github_type =
    strictly ((codes "event", Any) ∷ (codes "ref_protected", Bool') ∷ strings github_names)

abbrev pub runner_names : List (List ℕ)
runner_names =
    codes "name" ∷ codes "os" ∷ codes "arch" ∷ codes "temp" ∷ codes "tool_cache" ∷ codes "debug"
    ∷ codes "environment" ∷ []

abbrev pub runner_type : Type'
runner_type = object_with (strings runner_names) (Present Any)

abbrev pub job_type : Type'
job_type = object_with (strings (codes "status" ∷ [])) (Present Any)

abbrev pub strategy_type : Type'
strategy_type =
    strictly ((codes "fail-fast", Bool') ∷ (codes "job-index", Number) ∷ (codes "job-total", Number)
    ∷ (codes "max-parallel", Number) ∷ [])
