-- Small files, as their trees, and how the worked rows write them. The text of each is above its
-- tree.
use Rattle.std.specs.Prelude.{ℕ, ◌+◌, List, [], ◌∷◌, codes, length}
use Rattle.al_scalar.specs.Line.{Cell}
use Rattle.al_scalar.specs.Scalar.{Scalar}
use Rattle.al_scalar.specs.declared.styles.Class.TheVariants.{Str}
use Rattle.al_scalar.specs.declared.styles.Style.TheVariants.{Plain, SingleQuoted}
use Rattle.al_base.specs.declared.faults.Span.{Span}
use Rattle.al_yaml_tree.specs.Node.{Node, scalar, sequence, mapping, no_nodes, item, no_entries}
use Rattle.al_yaml_tree.specs.Node.{entry}

abbrev pub at : ℕ → ℕ → Span
at i j = record { start = i; end = j }

-- a text on one line, from an offset on
abbrev pub cells_from : ℕ → List ℕ → List Cell
cells_from i [] = []
cells_from i (b ∷ bs) = (b, i) ∷ cells_from (i + 1) bs

abbrev pub key : List ℕ → ℕ → Scalar
key text i =
    record { style = Plain; class = Str; cells = cells_from i text; span = at i (i + length text) }

abbrev pub word : List ℕ → ℕ → Node
word text i = scalar (key text i)

-- a text in single quotes, from the first of them on
abbrev pub quoted : List ℕ → ℕ → Node
quoted text i =
    scalar (record {
      style = SingleQuoted;
      class = Str;
      cells = cells_from (i + 1) text;
      span = at i (i + length text + 2);
    })

-- on: pus
-- jobs: {}
abbrev pub unknown_event : Node
unknown_event =
    mapping
    (entry (key (codes "on") 0) (word (codes "pus") 4)
    (entry (key (codes "jobs") 8) (mapping no_entries (at 14 16)) no_entries)) (at 0 16)

-- on:
--   issues:
--     types: [opened, close]
-- jobs: {}
abbrev pub wrong_activity : Node
wrong_activity =
    mapping
    (entry (key (codes "on") 0) (mapping
    (entry (key (codes "issues") 6) (mapping
    (entry (key (codes "types") 18)
    (sequence (item (word (codes "opened") 26) (item (word (codes "close") 34) no_nodes))
    (at 25 40))
    no_entries) (at 18 40))
    no_entries) (at 6 40))
    (entry (key (codes "jobs") 41) (mapping no_entries (at 47 49)) no_entries)) (at 0 49)

-- on:
--   push:
--     branches: ['a[b', '!']
--     paths: ['!./x']
-- jobs: {}
abbrev pub wrong_patterns : Node
wrong_patterns =
    mapping
    (entry (key (codes "on") 0) (mapping
    (entry (key (codes "push") 6) (mapping
    (entry (key (codes "branches") 16)
    (sequence (item (quoted (codes "a[b") 27) (item (quoted (codes "!") 34) no_nodes))
    (at 26 38))
    (entry (key (codes "paths") 43) (sequence (item (quoted (codes "!./x") 51) no_nodes) (at 50 58))
    no_entries)) (at 16 58))
    no_entries) (at 6 58))
    (entry (key (codes "jobs") 59) (mapping no_entries (at 65 67)) no_entries)) (at 0 67)

-- on:
--   schedule:
--     - cron: 0 0 * * 7
--     - cron: '*/4 * * * *'
--     - cron: 0,59 * * * *
-- jobs: {}
abbrev pub schedules : Node
schedules =
    mapping
    (entry (key (codes "on") 0) (mapping
    (entry (key (codes "schedule") 6) (sequence
    (item (mapping (entry (key (codes "cron") 22) (word (codes "0 0 * * 7") 28) no_entries)
    (at 22 37))
    (item (mapping (entry (key (codes "cron") 44) (quoted (codes "*/4 * * * *") 50) no_entries)
    (at 44 63))
    (item (mapping (entry (key (codes "cron") 70) (word (codes "0,59 * * * *") 76) no_entries)
    (at 70 88))
    no_nodes))) (at 20 88))
    no_entries) (at 6 88))
    (entry (key (codes "jobs") 89) (mapping no_entries (at 95 97)) no_entries)) (at 0 97)

-- on:
--   workflow_dispatch:
--     inputs:
--       level:
--         type: text
-- jobs: {}
abbrev pub input_types : Node
input_types =
    mapping
    (entry (key (codes "on") 0) (mapping
    (entry (key (codes "workflow_dispatch") 6) (mapping
    (entry (key (codes "inputs") 29) (mapping
    (entry (key (codes "level") 43)
    (mapping (entry (key (codes "type") 58) (word (codes "text") 64) no_entries) (at 58 68))
    no_entries) (at 43 68))
    no_entries) (at 29 68))
    no_entries) (at 6 68))
    (entry (key (codes "jobs") 69) (mapping no_entries (at 75 77)) no_entries)) (at 0 77)

-- on: push
-- jobs:
--   1st:
--     runs-on: u
--   a:
--     runs-on: u
--   A:
--     runs-on: u
abbrev pub ids : Node
ids =
    mapping
    (entry (key (codes "on") 0) (word (codes "push") 4)
    (entry (key (codes "jobs") 9) (mapping
    (entry (key (codes "1st") 17) (mapping
    (entry (key (codes "runs-on") 26) (word (codes "u") 35) no_entries) (at 26 36))
    (entry (key (codes "a") 39) (mapping
    (entry (key (codes "runs-on") 46) (word (codes "u") 55) no_entries) (at 46 56))
    (entry (key (codes "A") 59) (mapping
    (entry (key (codes "runs-on") 66) (word (codes "u") 75) no_entries) (at 66 76))
    no_entries))) (at 17 76))
    no_entries)) (at 0 76)

-- on: push
-- jobs:
--   a:
--     needs: B
--     runs-on: u
--   b:
--     needs: [a, x]
--     runs-on: u
--   c:
--     needs: a
--     runs-on: u
abbrev pub needs : Node
needs =
    mapping
    (entry (key (codes "on") 0) (word (codes "push") 4)
    (entry (key (codes "jobs") 9) (mapping
    (entry (key (codes "a") 17) (mapping
    (entry (key (codes "needs") 24) (word (codes "B") 31)
    (entry (key (codes "runs-on") 37) (word (codes "u") 46) no_entries)) (at 24 47))
    (entry (key (codes "b") 50) (mapping
    (entry (key (codes "needs") 57)
    (sequence (item (word (codes "a") 65) (item (word (codes "x") 68) no_nodes)) (at 64 70))
    (entry (key (codes "runs-on") 75) (word (codes "u") 84) no_entries)) (at 57 85))
    (entry (key (codes "c") 88) (mapping
    (entry (key (codes "needs") 95) (word (codes "a") 102)
    (entry (key (codes "runs-on") 108) (word (codes "u") 117) no_entries)) (at 95 118))
    no_entries))) (at 17 118))
    no_entries)) (at 0 118)

-- on: push
-- jobs:
--   a:
--     runs-on: u
--     strategy:
--       matrix:
--         os: linux
--         node: [x]
--         exclude: [{OS: y, np: z}]
abbrev pub matrix : Node
matrix =
    mapping
    (entry (key (codes "on") 0) (word (codes "push") 4)
    (entry (key (codes "jobs") 9) (mapping
    (entry (key (codes "a") 17) (mapping
    (entry (key (codes "runs-on") 24) (word (codes "u") 33)
    (entry (key (codes "strategy") 39) (mapping
    (entry (key (codes "matrix") 55) (mapping
    (entry (key (codes "os") 71) (word (codes "linux") 75)
    (entry (key (codes "node") 89) (sequence (item (word (codes "x") 96) no_nodes) (at 95 98))
    (entry (key (codes "exclude") 107) (sequence
    (item (mapping
    (entry (key (codes "OS") 118) (word (codes "y") 122)
    (entry (key (codes "np") 125) (word (codes "z") 129) no_entries)) (at 117 131))
    no_nodes) (at 116 132))
    no_entries))) (at 71 132))
    no_entries) (at 55 132))
    no_entries)) (at 24 132))
    no_entries) (at 17 132))
    no_entries)) (at 0 132)

-- on: push
-- permissions:
--   content: read
--   issues: all
-- env:
--   A B: x
-- defaults:
--   run:
--     shell: zsh
-- jobs: {}
abbrev pub settings : Node
settings =
    mapping
    (entry (key (codes "on") 0) (word (codes "push") 4)
    (entry (key (codes "permissions") 9) (mapping
    (entry (key (codes "content") 24) (word (codes "read") 33)
    (entry (key (codes "issues") 40) (word (codes "all") 48) no_entries)) (at 24 51))
    (entry (key (codes "env") 52) (mapping
    (entry (key (codes "A B") 59) (word (codes "x") 64) no_entries) (at 59 65))
    (entry (key (codes "defaults") 66) (mapping
    (entry (key (codes "run") 78) (mapping
    (entry (key (codes "shell") 87) (word (codes "zsh") 94) no_entries) (at 87 97))
    no_entries) (at 78 97))
    (entry (key (codes "jobs") 98) (mapping no_entries (at 104 106)) no_entries))))) (at 0 106)

-- on: push
-- jobs:
--   a:
--     runs-on: u
--     container:
--       credentials:
--         password: p ${{ secrets.P }}
abbrev pub password : Node
password =
    mapping
    (entry (key (codes "on") 0) (word (codes "push") 4)
    (entry (key (codes "jobs") 9) (mapping
    (entry (key (codes "a") 17) (mapping
    (entry (key (codes "runs-on") 24) (word (codes "u") 33)
    (entry (key (codes "container") 39) (mapping
    (entry (key (codes "credentials") 56) (mapping
    (entry (key (codes "password") 77) (word (codes "p ${{ secrets.P }}") 87) no_entries)
    (at 77 105))
    no_entries) (at 56 105))
    no_entries)) (at 24 105))
    no_entries) (at 17 105))
    no_entries)) (at 0 105)

-- on: push
-- jobs:
--   a:
--     runs-on: u
--     steps:
--       - if: ${{ true }} x
--         run: echo ::set-output name=a
abbrev pub step : Node
step =
    mapping
    (entry (key (codes "on") 0) (word (codes "push") 4)
    (entry (key (codes "jobs") 9) (mapping
    (entry (key (codes "a") 17) (mapping
    (entry (key (codes "runs-on") 24) (word (codes "u") 33)
    (entry (key (codes "steps") 39) (sequence
    (item (mapping
    (entry (key (codes "if") 54) (word (codes "${{ true }} x") 58)
    (entry (key (codes "run") 80) (word (codes "echo ::set-output name=a") 85) no_entries))
    (at 54 109))
    no_nodes) (at 52 109))
    no_entries)) (at 24 109))
    no_entries) (at 17 109))
    no_entries)) (at 0 109)

-- name: a
-- runs:
--   using: node18
abbrev pub using_is_unknown : Node
using_is_unknown =
    mapping
    (entry (key (codes "name") 0) (word (codes "a") 6)
    (entry (key (codes "runs") 8) (mapping
    (entry (key (codes "using") 16) (word (codes "node18") 23) no_entries) (at 16 29))
    no_entries)) (at 0 29)

-- name: a
-- outputs:
--   o:
--     description: d
-- runs:
--   using: composite
--   steps:
--     - run: make
abbrev pub composite : Node
composite =
    mapping
    (entry (key (codes "name") 0) (word (codes "a") 6)
    (entry (key (codes "outputs") 8) (mapping
    (entry (key (codes "o") 19) (mapping
    (entry (key (codes "description") 26) (word (codes "d") 39) no_entries) (at 26 40))
    no_entries) (at 19 40))
    (entry (key (codes "runs") 41) (mapping
    (entry (key (codes "using") 49) (word (codes "composite") 56)
    (entry (key (codes "steps") 68) (sequence
    (item (mapping (entry (key (codes "run") 81) (word (codes "make") 86) no_entries) (at 81 90))
    no_nodes) (at 79 90))
    no_entries)) (at 49 90))
    no_entries))) (at 0 90)
