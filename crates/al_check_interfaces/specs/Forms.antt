-- What the text of a `uses` names (GitHub, "Workflow syntax", `jobs.<job_id>.steps[*].uses` and
-- `jobs.<job_id>.uses`).
use Rattle.std.specs.Prelude.{ℕ, List, [], ◌∷◌, ◌++◌, ◌+◌, ◌-◌, ◌==◌, nat_lt, nat_eq, Bool, false}
use Rattle.std.specs.Prelude.{◌&&◌, codes, drop, take, length}
use Rattle.std.specs.Prelude.{Option, Some, None, is_none, if◌then◌else◌}
use Rattle.std.specs.List.{enumerate_from, list_all, list_any, starts_with, ends_with}
use Rattle.std.specs.Option.{option_map_or}
use Rattle.std.specs.Str.{bytes_eq, is_utf8}
use Rattle.al_base.specs.Ascii.{ascii}
use Rattle.al_base.specs.Paths.{parts, path_fault_of}
use Rattle.al_base.specs.declared.codes.Caller.{Caller}
use Rattle.al_base.specs.declared.codes.Caller.TheVariants as caller
use Rattle.al_lint.specs.declared.lint.Target.TheVariants.{Only, FirstOf}
use Rattle.al_tree.specs.Faults.{has_chunk}
use Rattle.al_tree.specs.Kinds.{is_workflow, is_workflow_name}
use Rattle.al_check_interfaces.specs.declared.forms.Form.{Form}
use Rattle.al_check_interfaces.specs.declared.forms.Form.TheVariants.{Local, Other, Wrong}

abbrev pub is_some_text : List ℕ → Bool
is_some_text bs = nat_lt 0 (length bs)

-- a byte that separates a REF from the parts before it, which have to pass a test: an `@` with
-- something after it
abbrev pub is_cut : (List (List ℕ) → Bool) → List (List ℕ) → ℕ → List ℕ → Bool
is_cut test before b ref = b == ascii "@" && is_some_text ref && test before

-- some byte of a text does
abbrev pub is_cut_at : (List (List ℕ) → Bool) → List ℕ → ℕ × ℕ → Bool
is_cut_at test bs at = is_cut test (parts (take at.0 bs)) at.1 (drop (at.0 + 1) bs)

abbrev pub is_some_cut : (List (List ℕ) → Bool) → List ℕ → Bool
is_some_cut test bs = list_any (is_cut_at test bs) (enumerate_from 0 bs)

abbrev pub is_workflow_parts : List (List ℕ) → Bool
is_workflow_parts (a ∷ b ∷ f ∷ []) =
    bytes_eq a (codes ".github") && bytes_eq b (codes "workflows") && is_workflow_name f
is_workflow_parts _ = false

-- which parts before a REF a step can name, and which a job
abbrev pub is_remote : Caller → List (List ℕ) → Bool
is_remote caller.Step ps = nat_lt 1 (length ps) && list_all is_some_text ps
is_remote caller.Job ps = list_all is_some_text ps && is_workflow_parts (drop 2 ps)

-- bytes that aren't UTF-8 aren't a path; no text of a file has such bytes
abbrev pub path_in : List ℕ → Option (List ℕ)
path_in bs = if is_utf8 bs && is_none (path_fault_of bs) then Some bs else None

-- `./DIR` without a trailing slash
abbrev pub without_slash : List ℕ → List ℕ
without_slash rest = if ends_with nat_eq rest (codes "/") then take (length rest - 1) rest else rest

-- both candidates, if they are paths
abbrev pub local_form : Option (List ℕ) → Option (List ℕ) → Form
local_form (Some a) (Some b) = Local (FirstOf a b)
local_form _ _ = Other

abbrev pub in_folder : List ℕ → List ℕ → List ℕ
in_folder dir file = if is_some_text dir then dir ++ codes "/" ++ file else file

abbrev pub file_in : List ℕ → List ℕ → Option (List ℕ)
file_in dir file = path_in (in_folder dir file)

abbrev pub local_step : List ℕ → Form
local_step dir = local_form (file_in dir (codes "action.yml")) (file_in dir (codes "action.yaml"))

abbrev pub local_job : List ℕ → Form
local_job rest =
    if is_workflow rest then option_map_or (λ p. Local (Only p)) (path_in rest) Wrong else Wrong

abbrev pub remote : Caller → List ℕ → Form
remote c bs = if is_some_cut (is_remote c) bs then Other else Wrong

abbrev pub is_image : List ℕ → Bool
is_image bs = starts_with nat_eq bs (codes "docker://") && nat_lt 9 (length bs)

abbrev pub form_by : Caller → List ℕ → Form
form_by caller.Step bs =
    if has_chunk bs then Wrong
    else if starts_with nat_eq bs (codes "./") then local_step (without_slash (drop 2 bs))
    else if is_image bs then Other
    else remote caller.Step bs
form_by caller.Job bs =
    if has_chunk bs then Wrong
    else if starts_with nat_eq bs (codes "./") then local_job (drop 2 bs)
    else remote caller.Job bs
