-- Small files, as their trees, and how the worked rows write them. The text of each is above its
-- tree.
use Rattle.std.specs.Prelude.{ℕ, ◌+◌, List, [], codes, length, map}
use Rattle.al_scalar.specs.Scalar.{Scalar}
use Rattle.al_scalar.specs.declared.styles.Class.{Class}
use Rattle.al_scalar.specs.declared.styles.Class.TheVariants.{Null, Int, Str}
use Rattle.al_scalar.specs.declared.styles.Style.TheVariants.{Plain}
use Rattle.al_base.specs.declared.faults.Span.{Span}
use Rattle.al_yaml_tree.specs.Node.{Node, scalar, sequence, mapping, no_nodes, item, no_entries}
use Rattle.al_yaml_tree.specs.Node.{entry}

abbrev pub at : ℕ → ℕ → Span
at i j = record { start = i; end = j }

-- a plain scalar on one line, from an offset on
abbrev pub plain_scalar : Class → List ℕ → ℕ → Scalar
plain_scalar c text i =
    record {
      style = Plain;
      class = c;
      cells = map (λ b. (b, i)) text;
      span = at i (i + length text);
    }

abbrev pub plain : Class → List ℕ → ℕ → Node
plain c text i = scalar (plain_scalar c text i)

abbrev pub word : List ℕ → ℕ → Node
word = plain Str

abbrev pub key : List ℕ → ℕ → Scalar
key = plain_scalar Str

-- on: push
-- jobs:
--   a:
--     steps:
--       - nam: x
abbrev pub step_without_script : Node
step_without_script =
    mapping (entry (key (codes "on") 0) (word (codes "push") 4)
    (entry (key (codes "jobs") 9) (mapping
    (entry (key (codes "a") 17) (mapping (entry (key (codes "steps") 24) (sequence (item (mapping
    (entry (key (codes "nam") 39) (word (codes "x") 44) no_entries) (at 39 45)) no_nodes)
    (at 37 45)) no_entries)
    (at 24 45)) no_entries) (at 17 45)) no_entries)) (at 0 45)

-- on: push
-- jobs:
--   a:
--     runs-on: ubuntu-latest
--     timeout-minutes: soon
--     steps:
--       - run: echo ${{ github.ref }}
abbrev pub wrong_number : Node
wrong_number =
    mapping (entry (key (codes "on") 0) (word (codes "push") 4)
    (entry (key (codes "jobs") 9) (mapping
    (entry (key (codes "a") 17) (mapping
    (entry (key (codes "runs-on") 24) (word (codes "ubuntu-latest") 33)
    (entry (key (codes "timeout-minutes") 51) (word (codes "soon") 68)
    (entry (key (codes "steps") 77) (sequence (item (mapping
    (entry (key (codes "run") 92) (word (codes "echo ${{ github.ref }}") 97) no_entries)
    (at 92 119)) no_nodes)
    (at 90 119)) no_entries))) (at 24 119)) no_entries) (at 17 119)) no_entries)) (at 0 119)

-- on: push
-- jobs:
--   a:
--     uses: o/r/.github/workflows/f.yml@v1
--     steps: []
abbrev pub steps_beside_uses : Node
steps_beside_uses =
    mapping (entry (key (codes "on") 0) (word (codes "push") 4)
    (entry (key (codes "jobs") 9) (mapping
    (entry (key (codes "a") 17) (mapping
    (entry (key (codes "uses") 24) (word (codes "o/r/.github/workflows/f.yml@v1") 30)
    (entry (key (codes "steps") 65) (sequence no_nodes (at 72 74)) no_entries)) (at 24 74))
    no_entries) (at 17 74)) no_entries)) (at 0 74)

-- name: A
-- runs:
--   using: composite
abbrev pub composite_without_steps : Node
composite_without_steps =
    mapping (entry (key (codes "name") 0) (word (codes "A") 6)
    (entry (key (codes "runs") 8) (mapping
    (entry (key (codes "using") 16) (word (codes "composite") 23) no_entries) (at 16 32))
    no_entries)) (at 0 32)

-- (nothing)
abbrev pub empty_file : Node
empty_file = plain Null [] 0

-- []
abbrev pub root_is_a_list : Node
root_is_a_list = sequence no_nodes (at 0 2)

-- ~
abbrev pub root_is_null : Node
root_is_null = plain Null (codes "~") 0

-- on:
-- jobs: {}
abbrev pub no_event : Node
no_event =
    mapping (entry (key (codes "on") 0) (plain Null [] 3)
    (entry (key (codes "jobs") 4) (mapping no_entries (at 10 12)) no_entries)) (at 0 12)

-- on: push
-- jobs:
abbrev pub no_jobs : Node
no_jobs =
    mapping (entry (key (codes "on") 0) (word (codes "push") 4)
    (entry (key (codes "jobs") 9) (plain Null [] 14) no_entries)) (at 0 14)

-- on: push
-- jobs:
--   a:
abbrev pub job_is_null : Node
job_is_null =
    mapping (entry (key (codes "on") 0) (word (codes "push") 4)
    (entry (key (codes "jobs") 9) (mapping
    (entry (key (codes "a") 17) (plain Null [] 19) no_entries) (at 17 19)) no_entries)) (at 0 19)

-- x: 1
-- x: 2
-- on: push
-- jobs: {}
abbrev pub repeated_key : Node
repeated_key =
    mapping (entry (key (codes "x") 0) (plain Int (codes "1") 3)
    (entry (key (codes "x") 5) (plain Int (codes "2") 8)
    (entry (key (codes "on") 10) (word (codes "push") 14)
    (entry (key (codes "jobs") 19) (mapping no_entries (at 25 27)) no_entries)))) (at 0 27)

-- on: push
-- jobs:
--   a:
--     uses: o/r/.github/workflows/f.yml@v1
--     foo: 1
abbrev pub unknown_beside_uses : Node
unknown_beside_uses =
    mapping (entry (key (codes "on") 0) (word (codes "push") 4)
    (entry (key (codes "jobs") 9) (mapping
    (entry (key (codes "a") 17) (mapping
    (entry (key (codes "uses") 24) (word (codes "o/r/.github/workflows/f.yml@v1") 30)
    (entry (key (codes "foo") 65) (plain Int (codes "1") 70) no_entries)) (at 24 71)) no_entries)
    (at 17 71)) no_entries)) (at 0 71)

-- on:
--   push:
--     tags-ignore: a
--     tags: b
-- jobs: {}
abbrev pub filter_and_its_opposite : Node
filter_and_its_opposite =
    mapping (entry (key (codes "on") 0) (mapping (entry (key (codes "push") 6) (mapping
    (entry (key (codes "tags-ignore") 16) (word (codes "a") 29)
    (entry (key (codes "tags") 35) (word (codes "b") 41) no_entries)) (at 16 42)) no_entries)
    (at 6 42))
    (entry (key (codes "jobs") 43) (mapping no_entries (at 49 51)) no_entries)) (at 0 51)

-- on: push
-- jobs:
--   a:
--     runs-on: u
--     steps:
--       - uses: a/b@c
--         run: x
abbrev pub run_and_uses : Node
run_and_uses =
    mapping (entry (key (codes "on") 0) (word (codes "push") 4)
    (entry (key (codes "jobs") 9) (mapping
    (entry (key (codes "a") 17) (mapping (entry (key (codes "runs-on") 24) (word (codes "u") 33)
    (entry (key (codes "steps") 39)
    (sequence (item (mapping (entry (key (codes "uses") 54) (word (codes "a/b@c") 60)
    (entry (key (codes "run") 74) (word (codes "x") 79) no_entries)) (at 54 80)) no_nodes)
    (at 52 80)) no_entries))
    (at 24 80)) no_entries) (at 17 80)) no_entries)) (at 0 80)

-- name: A
-- description: d
-- runs:
--   using: x
--   main: [a]
--   main: b
--   using: y
abbrev pub using_is_unknown : Node
using_is_unknown =
    mapping (entry (key (codes "name") 0) (word (codes "A") 6)
    (entry (key (codes "description") 8) (word (codes "d") 21)
    (entry (key (codes "runs") 23) (mapping (entry (key (codes "using") 31) (word (codes "x") 38)
    (entry (key (codes "main") 42) (sequence (item (word (codes "a") 49) no_nodes) (at 48 51))
    (entry (key (codes "main") 54) (word (codes "b") 60)
    (entry (key (codes "using") 64) (word (codes "y") 71) no_entries)))) (at 31 72)) no_entries)))
    (at 0 72)

-- name: A
-- description: d
-- runs: {main: x}
abbrev pub using_is_missing : Node
using_is_missing =
    mapping (entry (key (codes "name") 0) (word (codes "A") 6)
    (entry (key (codes "description") 8) (word (codes "d") 21)
    (entry (key (codes "runs") 23) (mapping
    (entry (key (codes "main") 30) (word (codes "x") 36) no_entries) (at 29 38)) no_entries)))
    (at 0 38)

-- on:
--   schedule:
--     - ~
-- jobs: {}
abbrev pub null_item : Node
null_item =
    mapping (entry (key (codes "on") 0) (mapping (entry (key (codes "schedule") 6) (sequence
    (item (plain Null (codes "~") 22) no_nodes) (at 20 23)) no_entries) (at 6 23))
    (entry (key (codes "jobs") 24) (mapping no_entries (at 30 32)) no_entries)) (at 0 32)

-- on:
--   foo: {a: [], a: b}
--   foo: x
-- jobs: {}
abbrev pub event_is_unknown : Node
event_is_unknown =
    mapping (entry (key (codes "on") 0)
    (mapping (entry (key (codes "foo") 6) (mapping (entry (key (codes "a") 12)
    (sequence no_nodes (at 15 17)) (entry (key (codes "a") 19) (word (codes "b") 22) no_entries))
    (at 11 24))
    (entry (key (codes "foo") 27) (word (codes "x") 32) no_entries)) (at 6 33))
    (entry (key (codes "jobs") 34) (mapping no_entries (at 40 42)) no_entries)) (at 0 42)

-- on: push
-- env: x
-- jobs: {}
abbrev pub env_is_a_word : Node
env_is_a_word =
    mapping (entry (key (codes "on") 0) (word (codes "push") 4)
    (entry (key (codes "env") 9) (word (codes "x") 14)
    (entry (key (codes "jobs") 16) (mapping no_entries (at 22 24)) no_entries))) (at 0 24)

-- on:
--   workflow_call:
--     inputs:
--       a: {required: soon}
--     outputs:
--       o: {}
-- jobs: {}
abbrev pub call_without_type : Node
call_without_type =
    mapping (entry (key (codes "on") 0) (mapping (entry (key (codes "workflow_call") 6) (mapping
    (entry (key (codes "inputs") 25) (mapping (entry (key (codes "a") 39) (mapping
    (entry (key (codes "required") 43) (word (codes "soon") 53) no_entries) (at 42 58)) no_entries)
    (at 39 58))
    (entry (key (codes "outputs") 63) (mapping
    (entry (key (codes "o") 78) (mapping no_entries (at 81 83)) no_entries) (at 78 83)) no_entries))
    (at 25 83)) no_entries)
    (at 6 83)) (entry (key (codes "jobs") 84) (mapping no_entries (at 90 92)) no_entries)) (at 0 92)

-- on: push
-- env:
-- jobs: {}
abbrev pub env_is_null : Node
env_is_null =
    mapping (entry (key (codes "on") 0) (word (codes "push") 4)
    (entry (key (codes "env") 9) (plain Null [] 13)
    (entry (key (codes "jobs") 14) (mapping no_entries (at 20 22)) no_entries))) (at 0 22)

-- on: push
-- jobs: {}
-- jobs: x
abbrev pub second_jobs : Node
second_jobs =
    mapping (entry (key (codes "on") 0) (word (codes "push") 4)
    (entry (key (codes "jobs") 9) (mapping no_entries (at 15 17))
    (entry (key (codes "jobs") 18) (word (codes "x") 24) no_entries))) (at 0 25)
