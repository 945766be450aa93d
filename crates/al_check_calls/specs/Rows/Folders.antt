-- Small folders, as the trees of their files, and the faults of their calls.
use Rattle.std.specs.Prelude.{ℕ, List, [], ◌∷◌, codes, Option, Some}
use Rattle.al_base.specs.declared.codes.CallCode.{CallCode}
use Rattle.al_base.specs.declared.codes.Caller.{Caller}
use Rattle.al_base.specs.declared.codes.Code.TheVariants as code_of
use Rattle.al_base.specs.declared.faults.Fault.{Fault}
use Rattle.al_base.specs.declared.faults.Span.{Span}
use Rattle.al_scalar.specs.declared.styles.Class.TheVariants.{Bool as BoolClass, Int}
use Rattle.al_types.specs.Types.{Type', Any}
use Rattle.al_yaml_tree.specs.Node.{Node, sequence, mapping, no_nodes, item, no_entries, entry}
use Rattle.al_tree.specs.Rows.Files.{at, key, plain, word}
use Rattle.al_tree.specs.declared.files.FileKind.{FileKind}
use Rattle.al_tree.specs.declared.files.FileKind.TheVariants as kind
use Rattle.al_check_interfaces.specs.Interfaces.{interface_of}
use Rattle.al_check_interfaces.specs.declared.interfaces.Interface.{Interface}
use Rattle.al_check_calls.specs.Answers.{call_faults_in}

abbrev pub found : CallCode → Caller → Span → List (List ℕ) → Fault
found c by span args = record { span = span; code = code_of.Call c by; args = args }

-- the faults of the calls of a workflow, where all values that are passed have one type
abbrev pub faults_with : Type' → Node → List (Option Interface) → List Fault
faults_with t root answers = call_faults_in kind.Workflow (λ site key s. t) root answers

abbrev pub faults_of : Node → List (Option Interface) → List Fault
faults_of = faults_with Any

abbrev pub e_yml : List ℕ
e_yml = codes "./.github/workflows/e.yml"

-- on: push
-- jobs:
--   a:
--     runs-on: ubuntu-latest
--     steps:
--       - uses: ./a
abbrev pub step_calls_a : Node
step_calls_a =
    mapping (entry (key (codes "on") 0) (word (codes "push") 4) (entry (key (codes "jobs") 9)
    (mapping (entry (key (codes "a") 17)
    (mapping (entry (key (codes "runs-on") 24) (word (codes "ubuntu-latest") 33)
    (entry (key (codes "steps") 51)
    (sequence (item (mapping (entry (key (codes "uses") 66) (word (codes "./a") 72) no_entries)
    (at 66 75)) no_nodes) (at 64 75)) no_entries)) (at 24 75)) no_entries) (at 17 75)) no_entries))
    (at 0 75)

-- name: A
-- description: d
-- inputs:
--   who:
--     required: true
-- runs:
--   using: node20
--   main: m.js
abbrev pub action_requiring_who : Node
action_requiring_who =
    mapping (entry (key (codes "name") 0) (word (codes "A") 6) (entry (key (codes "description") 8)
    (word (codes "d") 21) (entry (key (codes "inputs") 23)
    (mapping (entry (key (codes "who") 33)
    (mapping (entry (key (codes "required") 42) (plain BoolClass (codes "true") 52) no_entries)
    (at 42 56)) no_entries) (at 33 56))
    (entry (key (codes "runs") 57)
    (mapping (entry (key (codes "using") 65) (word (codes "node20") 72)
    (entry (key (codes "main") 81) (word (codes "m.js") 87) no_entries)) (at 65 91)) no_entries))))
    (at 0 91)

-- on: push
-- jobs:
--   a:
--     uses: ./.github/workflows/d.yml
abbrev pub job_calls_d : Node
job_calls_d =
    mapping (entry (key (codes "on") 0) (word (codes "push") 4) (entry (key (codes "jobs") 9)
    (mapping (entry (key (codes "a") 17)
    (mapping (entry (key (codes "uses") 24) (word (codes "./.github/workflows/d.yml") 30)
    no_entries) (at 24 55)) no_entries)
    (at 17 55)) no_entries)) (at 0 55)

-- on: push
-- jobs: {}
abbrev pub not_callable : Node
not_callable = mapping
    (entry (key (codes "on") 0) (word (codes "push") 4)
    (entry (key (codes "jobs") 9) (mapping no_entries (at 15 17)) no_entries))
    (at 0 17)

-- on:
--   workflow_call:
--     inputs:
--       x:
--         type: boolean
-- jobs: {}
abbrev pub takes_boolean_x : Node
takes_boolean_x =
    mapping (entry (key (codes "on") 0) (mapping (entry (key (codes "workflow_call") 6)
    (mapping (entry (key (codes "inputs") 25)
    (mapping (entry (key (codes "x") 39)
    (mapping (entry (key (codes "type") 50) (word (codes "boolean") 56) no_entries)
    (at 50 63)) no_entries) (at 39 63)) no_entries) (at 25 63)) no_entries) (at 6 63))
    (entry (key (codes "jobs") 64)
    (mapping no_entries (at 70 72)) no_entries)) (at 0 72)

-- on: push
-- jobs:
--   a:
--     uses: ./.github/workflows/e.yml
--     with:
--       x: 3
--       y: 1
abbrev pub job_gives_x_and_y : Node
job_gives_x_and_y =
    mapping (entry (key (codes "on") 0) (word (codes "push") 4) (entry (key (codes "jobs") 9)
    (mapping (entry (key (codes "a") 17) (mapping (entry (key (codes "uses") 24) (word e_yml 30)
    (entry (key (codes "with") 60)
    (mapping (entry (key (codes "x") 72) (plain Int (codes "3") 75) (entry (key (codes "y") 83)
    (plain Int (codes "1") 86) no_entries)) (at 72 87)) no_entries)) (at 24 87)) no_entries)
    (at 17 87)) no_entries)) (at 0 87)

-- on:
--   workflow_call:
--     secrets:
--       token:
--         required: true
-- jobs: {}
abbrev pub requires_token : Node
requires_token = mapping (entry (key (codes "on") 0) (mapping (entry (key (codes "workflow_call") 6)
    (mapping (entry (key (codes "secrets") 25)
    (mapping (entry (key (codes "token") 40)
    (mapping (entry (key (codes "required") 55) (plain BoolClass (codes "true") 65) no_entries)
    (at 55 69)) no_entries)
    (at 40 69)) no_entries) (at 25 69)) no_entries) (at 6 69)) (entry (key (codes "jobs") 70)
    (mapping no_entries (at 76 78)) no_entries)) (at 0 78)

-- on: push
-- jobs:
--   a:
--     uses: ./.github/workflows/e.yml
--     secrets:
--       key: k
abbrev pub job_gives_key : Node
job_gives_key =
    mapping (entry (key (codes "on") 0) (word (codes "push") 4) (entry (key (codes "jobs") 9)
    (mapping (entry (key (codes "a") 17) (mapping (entry (key (codes "uses") 24) (word e_yml 30)
    (entry (key (codes "secrets") 60)
    (mapping (entry (key (codes "key") 75) (word (codes "k") 80) no_entries)
    (at 75 81)) no_entries)) (at 24 81)) no_entries) (at 17 81)) no_entries)) (at 0 81)

-- on: push
-- jobs:
--   a:
--     uses: ./.github/workflows/e.yml
--     secrets: inherit
abbrev pub job_inherits : Node
job_inherits =
    mapping (entry (key (codes "on") 0) (word (codes "push") 4) (entry (key (codes "jobs") 9)
    (mapping (entry (key (codes "a") 17) (mapping (entry (key (codes "uses") 24) (word e_yml 30)
    (entry (key (codes "secrets") 60) (word (codes "inherit") 69) no_entries)) (at 24 76))
    no_entries) (at 17 76)) no_entries))
    (at 0 76)

abbrev pub shown_by : FileKind → Node → List (Option Interface)
shown_by k root = Some (interface_of k root) ∷ []
