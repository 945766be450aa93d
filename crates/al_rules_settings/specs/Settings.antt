-- Faults of shells, permissions, environment variables, credentials, conditions and scripts.
use Rattle.std.specs.Prelude.{ℕ, List, [], ◌∷◌, ◌++◌, Bool, false, ◌||◌, ◌&&◌, not, codes, Option}
use Rattle.std.specs.Prelude.{if◌then◌else◌}
use Rattle.std.specs.List.{flat_map}
use Rattle.std.specs.Option.{option_map_or}
use Rattle.al_base.specs.declared.codes.RuleCode.TheVariants.{AlwaysTrue, PasswordNotExpression}
use Rattle.al_base.specs.declared.codes.RuleCode.TheVariants.{UnknownPermission, UnknownShell}
use Rattle.al_base.specs.declared.codes.RuleCode.TheVariants.{WrongPermission, WrongVariable}
use Rattle.al_base.specs.declared.faults.Fault.{Fault}
use Rattle.al_scalar.specs.Scalar.{Scalar, text_of}
use Rattle.al_yaml_tree.specs.Access.{scalar_in}
use Rattle.al_yaml_tree.specs.Node.{Node, span_of}
use Rattle.al_tree.specs.Faults.{has_chunk, is_null}
use Rattle.al_base.specs.Names.{among}
use Rattle.al_tree.specs.Values.{value_at, value_below, text_in, entries_in, entries_at}
use Rattle.al_expr_grammar.specs.Lone.{is_lone_chunk}
use Rattle.al_rules_formats.specs.Names.{is_variable}
use Rattle.al_rules_formats.specs.Texts.{has_part}
use Rattle.al_expr_grammar.specs.declared.lone.Around.TheVariants.{Blanks, Nothing}
use Rattle.al_rules_settings.specs.Commands.{command_faults}
use Rattle.al_rules_settings.specs.Names.{shells, permissions, scope_values, whole_values}
use Rattle.al_rules_settings.specs.Words.{of_scalar, rule_fault, unless, unless_among}

-- a known shell, or a text with an expression or `{0}`, the place of the script
abbrev pub is_shell : List ℕ → Bool
is_shell text = has_chunk text || has_part (codes "{0}") text || among shells text

abbrev pub shell_faults : Option Scalar → List Fault
shell_faults shell =
    option_map_or (λ s. unless (is_shell (of_scalar s).text) UnknownShell (of_scalar s)) shell []

-- an unknown permission, and a wrong value of any
abbrev pub permission_value_faults : List (List ℕ) → Node → List Fault
permission_value_faults values n =
    option_map_or (λ s. unless_among WrongPermission values (of_scalar s)) (text_in n) []

abbrev pub permission_faults : Scalar × Node → List Fault
permission_faults m = unless_among UnknownPermission permissions (of_scalar m.0)
    ++ permission_value_faults scope_values m.1

abbrev pub all_permissions_faults : Node → List Fault
all_permissions_faults n =
    permission_value_faults whole_values n ++ flat_map permission_faults (entries_in n)

abbrev pub permissions_faults : Node → List Fault
permissions_faults section =
    option_map_or all_permissions_faults (value_at (codes "permissions") section) []

-- an invalid name of an environment variable
abbrev pub variable_faults : Scalar × Node → List Fault
variable_faults m = unless (is_variable (of_scalar m.0).text) WrongVariable (of_scalar m.0)

abbrev pub env_faults : Node → List Fault
env_faults section = flat_map variable_faults (entries_at (codes "env") section)

-- a password that isn't one expression
abbrev pub is_password : Node → Bool
is_password n =
    option_map_or (λ s. is_null s || is_lone_chunk Nothing (text_of s)) (scalar_in n) false

abbrev pub password_faults : Node → List Fault
password_faults n = if is_password n then []
    else rule_fault PasswordNotExpression (span_of n) [] ∷ []

-- the fault of the credentials of a container or a service
abbrev pub credentials_faults : Node → List Fault
credentials_faults container =
    option_map_or password_faults (value_below (codes "credentials" ∷ codes "password"
    ∷ []) container) []

-- the deprecated commands of a script
abbrev pub script_faults : Option Scalar → List Fault
script_faults run = option_map_or command_faults run []

-- a condition that is always true: an expression with other text around it
abbrev pub is_always_true : List ℕ → Bool
is_always_true text = has_chunk text && not (is_lone_chunk Blanks text)

abbrev pub condition_faults : Option Scalar → List Fault
condition_faults condition =
    option_map_or (λ s. if is_always_true (text_of s) then rule_fault AlwaysTrue s.span []
    ∷ [] else []) condition []
