-- The limits on nodes, on the text of aliases' nodes and on nesting, which are the profile's own.
use Rattle.std.specs.Prelude.{ℕ, ◌+◌, List, [], ◌∷◌, ◌||◌, min, nat_lt, if◌then◌else◌, Option, Some}
use Rattle.std.specs.Prelude.{None, Result, Err}
use Rattle.al_base.specs.Limits.{deepest_collection, most_alias_text, most_nodes}
use Rattle.al_base.specs.declared.codes.YamlCode.TheVariants as yaml
use Rattle.al_scalar.specs.declared.faults.FaultAt.{FaultAt}
use Rattle.al_yaml_tree.specs.Reading.{Start, Outcome}

-- a count in 32 bits, which stays at its greatest value
abbrev pub most_counted : ℕ → ℕ
most_counted n = min n 4294967295

-- The first start that breaks a limit, after so many nodes and so many bytes of text of aliases'
-- nodes; at one offset, too many nodes, or too much text, come before too deep a nesting.
abbrev pub broken_limit : ℕ → ℕ → List Start → Option FaultAt
broken_limit nodes text [] = None
broken_limit nodes text (s ∷ ss) =
    let below = broken_limit (nodes + s.nodes) (text + s.text) ss in
    if nat_lt most_nodes (nodes + s.nodes) || nat_lt most_alias_text (text + s.text)
    then Some (record { code = yaml.TooManyNodes; at = s.at })
    else (if nat_lt deepest_collection s.depth then
    Some (record { code = yaml.NestingTooDeep; at = s.at }) else below)

abbrev pub nodes_listed : List Start → ℕ
nodes_listed [] = 0
nodes_listed (s ∷ ss) = s.nodes + nodes_listed ss

abbrev pub text_listed : List Start → ℕ
text_listed [] = 0
text_listed (s ∷ ss) = s.text + text_listed ss

-- the first fault, or else the result: a broken limit comes before every later fault
abbrev pub unless_fault : {A : Type 0} → Option FaultAt → Result A FaultAt → Result A FaultAt
unless_fault None r = r
unless_fault (Some f) r = Err f

-- the result after so many nodes and so many bytes of text, unless a limit is broken
abbrev pub within_limits : {A : Type 0} → ℕ → ℕ → Outcome A → Result A FaultAt
within_limits nodes text o = unless_fault (broken_limit nodes text o.starts) o.answer
