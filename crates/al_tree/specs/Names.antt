-- The keys of a matrix that aren't rows, and the names of the events that trigger workflows
-- (GitHub, "Events that trigger workflows").
use Rattle.std.specs.Prelude.{ℕ, List, [], ◌∷◌, Bool, codes}
use Rattle.al_base.specs.Names.{among}

-- the keys of a matrix that aren't rows (GitHub, "Workflow syntax",
-- `jobs.<job_id>.strategy.matrix`)
abbrev pub is_combination_key : List ℕ → Bool
is_combination_key = among (codes "include" ∷ codes "exclude" ∷ [])

abbrev pub event_names : List (List ℕ)
event_names =
    codes "branch_protection_rule" ∷ codes "discussion_comment" ∷ codes "issue_comment"
    ∷ codes "label" ∷ codes "pull_request_review_comment" ∷ codes "discussion" ∷ codes "issues"
    ∷ codes "milestone" ∷ codes "pull_request" ∷ codes "pull_request_target"
    ∷ codes "pull_request_review" ∷ codes "release" ∷ codes "workflow_run" ∷ codes "check_run"
    ∷ codes "check_suite" ∷ codes "create" ∷ codes "delete" ∷ codes "deployment"
    ∷ codes "deployment_status" ∷ codes "fork" ∷ codes "gollum" ∷ codes "image_version"
    ∷ codes "merge_group" ∷ codes "page_build" ∷ codes "project" ∷ codes "project_card"
    ∷ codes "project_column" ∷ codes "public" ∷ codes "pull_request_comment" ∷ codes "push"
    ∷ codes "registry_package" ∷ codes "repository_dispatch" ∷ codes "schedule" ∷ codes "status"
    ∷ codes "watch" ∷ codes "workflow_call" ∷ codes "workflow_dispatch" ∷ []

abbrev pub is_event : List ℕ → Bool
is_event = among event_names
