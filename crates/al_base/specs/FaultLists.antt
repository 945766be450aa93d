-- The faults of a file as a report lists them: in order, each once.
use Rattle.std.specs.Prelude.{ℕ, ◌+◌, ◌*◌, List}
use Rattle.std.specs.List.{position_or_len}
use Rattle.std.specs.Ordering.{nat_cmp, on, then_cmp}
use Rattle.std.specs.declared.cmp.Ordering.{Ordering}
use Rattle.al_base.specs.Orders.{args_cmp}
use Rattle.al_base.specs.Codes.{call_codes, expression_codes, key_codes, rule_codes, yaml_codes}
use Rattle.al_base.specs.InOrder.{in_order}
use Rattle.al_base.specs.contracts.codes.CallCodePartialEq.TheImpl as call
use Rattle.al_base.specs.contracts.codes.ExpressionCodePartialEq.TheImpl as expression
use Rattle.al_base.specs.contracts.codes.KeyCodePartialEq.TheImpl as key
use Rattle.al_base.specs.contracts.codes.RuleCodePartialEq.TheImpl as rule
use Rattle.al_base.specs.contracts.codes.YamlCodePartialEq.TheImpl as yaml
use Rattle.al_base.specs.declared.codes.Caller.{Caller}
use Rattle.al_base.specs.declared.codes.Caller.TheVariants as caller
use Rattle.al_base.specs.declared.codes.Code.{Code}
use Rattle.al_base.specs.declared.codes.Code.TheVariants as C
use Rattle.al_base.specs.declared.faults.Fault.{Fault}

-- of two faults of one call code, that of a job comes first
abbrev pub turn : Caller → ℕ
turn caller.Job = 0
turn caller.Step = 1

-- the position of a code among those of its kind
abbrev pub place_in_kind : Code → ℕ
place_in_kind (C.Yaml code) = position_or_len (λ c. yaml.ghosts.eq c code) yaml_codes
place_in_kind (C.Key code) = position_or_len (λ c. key.ghosts.eq c code) key_codes
place_in_kind (C.Rule code) = position_or_len (λ c. rule.ghosts.eq c code) rule_codes
place_in_kind (C.Expression code) =
    position_or_len (λ c. expression.ghosts.eq c code) expression_codes
place_in_kind (C.Call code by) =
    2 * position_or_len (λ c. call.ghosts.eq c code) call_codes + turn by

-- faults of YAML, then of keys, then of rules, of expressions, of calls
abbrev pub kind_place : Code → ℕ
kind_place (C.Yaml code) = 0
kind_place (C.Key code) = 1
kind_place (C.Rule code) = 2
kind_place (C.Expression code) = 3
kind_place (C.Call code by) = 4

-- by start, by end, by code, and then by the arguments
abbrev pub fault_cmp : Fault → Fault → Ordering
fault_cmp =
    then_cmp (on (λ fault. fault.span.start) nat_cmp)
    (then_cmp (on (λ fault. fault.span.end) nat_cmp)
    (then_cmp (on (λ fault. kind_place fault.code) nat_cmp)
    (then_cmp (on (λ fault. place_in_kind fault.code) nat_cmp)
    (on (λ fault. fault.args) args_cmp))))

-- these faults in order, each once
abbrev pub fault_list : List Fault → List Fault
fault_list faults = in_order fault_cmp faults
