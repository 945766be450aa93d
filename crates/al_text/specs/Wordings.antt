-- What a report says of each fault code: its kind, and the words of its message.
use Rattle.std.specs.Prelude.{ℕ, List, codes}
use Prim.Native.String.{String as Text}
use Rattle.al_base.specs.declared.codes.Code.{Code}
use Rattle.al_base.specs.declared.codes.Code.TheVariants as C
use Rattle.al_base.specs.declared.codes.YamlCode.TheVariants.{NotUtf8, ControlCharacter}
use Rattle.al_base.specs.declared.codes.YamlCode.TheVariants.{TabInIndentation, WrongIndentation}
use Rattle.al_base.specs.declared.codes.YamlCode.TheVariants.{UnclosedQuote}
use Rattle.al_base.specs.declared.codes.YamlCode.TheVariants.{UnclosedFlow, AnchorOrAlias, Tag}
use Rattle.al_base.specs.declared.codes.YamlCode.TheVariants.{ExplicitKey, Directive}
use Rattle.al_base.specs.declared.codes.YamlCode.TheVariants.{SecondDocument}
use Rattle.al_base.specs.declared.codes.YamlCode.TheVariants.{WrongEscape, UnexpectedCharacter}
use Rattle.al_base.specs.declared.codes.YamlCode.TheVariants.{NestingTooDeep, TooManyNodes}
use Rattle.al_base.specs.declared.codes.YamlCode.TheVariants.{WrongBlockHeader, WrongKey}
use Rattle.al_base.specs.declared.codes.YamlCode.TheVariants.{UnknownAlias}
use Rattle.al_base.specs.declared.codes.KeyCode.TheVariants.{Unexpected, Missing, Repeated}
use Rattle.al_base.specs.declared.codes.KeyCode.TheVariants.{WrongKind, WrongType, NotBeside}
use Rattle.al_base.specs.declared.codes.KeyCode.TheVariants.{EmptyFile}
use Rattle.al_base.specs.declared.codes.RuleCode.TheVariants.{UnknownEvent, UnknownActivity}
use Rattle.al_base.specs.declared.codes.RuleCode.TheVariants.{WrongPattern, WrongSchedule}
use Rattle.al_base.specs.declared.codes.RuleCode.TheVariants.{ScheduleTooOften}
use Rattle.al_base.specs.declared.codes.RuleCode.TheVariants.{WrongId, RepeatedId, UndefinedJob}
use Rattle.al_base.specs.declared.codes.RuleCode.TheVariants.{NeedsCycle, WrongMatrix}
use Rattle.al_base.specs.declared.codes.RuleCode.TheVariants.{UnknownMatrixRow}
use Rattle.al_base.specs.declared.codes.RuleCode.TheVariants.{UnknownShell, UnknownPermission}
use Rattle.al_base.specs.declared.codes.RuleCode.TheVariants.{WrongPermission, WrongVariable}
use Rattle.al_base.specs.declared.codes.RuleCode.TheVariants.{PasswordNotExpression}
use Rattle.al_base.specs.declared.codes.RuleCode.TheVariants.{DeprecatedCommand, AlwaysTrue}
use Rattle.al_base.specs.declared.codes.RuleCode.TheVariants.{UnknownInputType}
use Rattle.al_base.specs.declared.codes.RuleCode.TheVariants.{UnknownUsing, MissingShell}
use Rattle.al_base.specs.declared.codes.RuleCode.TheVariants.{MissingOutputValue}
use Rattle.al_base.specs.declared.codes.CallCode.TheVariants.{NoWorkflow, UndefinedInput}
use Rattle.al_base.specs.declared.codes.CallCode.TheVariants.{MissingInput, WrongInput}
use Rattle.al_base.specs.declared.codes.CallCode.TheVariants.{UndefinedSecret}
use Rattle.al_base.specs.declared.codes.CallCode.TheVariants.{MissingSecret, WrongUses, NotCallable}
use Rattle.al_base.specs.declared.codes.CallCode.TheVariants.{CallCycle}
use Rattle.al_base.specs.declared.codes.Caller.{Caller}
use Rattle.al_base.specs.declared.codes.Caller.TheVariants as caller
use Rattle.al_base.specs.declared.codes.ExpressionCode.TheVariants.{BadCharacter, UnclosedText}
use Rattle.al_base.specs.declared.codes.ExpressionCode.TheVariants.{UnexpectedToken, EndsEarly}
use Rattle.al_base.specs.declared.codes.ExpressionCode.TheVariants.{TooLong}
use Rattle.al_base.specs.declared.codes.ExpressionCode.TheVariants.{TooDeep, UndefinedContext}
use Rattle.al_base.specs.declared.codes.ExpressionCode.TheVariants.{UnavailableContext}
use Rattle.al_base.specs.declared.codes.ExpressionCode.TheVariants.{UndefinedFunction}
use Rattle.al_base.specs.declared.codes.ExpressionCode.TheVariants.{UnavailableFunction}
use Rattle.al_base.specs.declared.codes.ExpressionCode.TheVariants.{ArgumentCount, ArgumentType}
use Rattle.al_base.specs.declared.codes.ExpressionCode.TheVariants.{UndefinedProperty}
use Rattle.al_base.specs.declared.codes.ExpressionCode.TheVariants.{NotIndexable, NotComparable}
use Rattle.al_base.specs.declared.codes.ExpressionCode.TheVariants.{WrongPlaceholder}
use Rattle.al_base.specs.declared.codes.ExpressionCode.TheVariants.{UnusedArgument, NotText}
use Rattle.al_base.specs.declared.codes.ExpressionCode.TheVariants.{Untrusted, UnclosedChunk}

-- the kind that a report names, and the words of the message before, between and after its
-- arguments
pub record CodeRow : Type 0 where
  pub kind : List ℕ
  pub head : List ℕ
  pub middle : List ℕ
  pub tail : List ℕ

abbrev pub row : Text → Text → Text → Text → CodeRow
row kind head middle tail =
    record { kind = codes kind; head = codes head; middle = codes middle; tail = codes tail }

abbrev pub syntax : Text → Text → Text → CodeRow
syntax = row "syntax-check"

abbrev pub expression : Text → Text → Text → CodeRow
expression = row "expression"

abbrev pub call_kind : Caller → Text
call_kind caller.Job = "workflow-call"
call_kind caller.Step = "action"

abbrev pub row_of_call : Caller → Text → Text → Text → CodeRow
row_of_call by = row (call_kind by)

abbrev pub code_row : Code → CodeRow
-- Y, reading a file as YAML
code_row (C.Yaml NotUtf8) = syntax "file is not UTF-8" "" ""
code_row (C.Yaml ControlCharacter) = syntax "control character" "" ""
code_row (C.Yaml TabInIndentation) = syntax "tab in indentation" "" ""
code_row (C.Yaml WrongIndentation) = syntax "wrong indentation" "" ""
code_row (C.Yaml UnclosedQuote) = syntax "quoted text is not closed" "" ""
code_row (C.Yaml UnclosedFlow) = syntax "flow collection is not closed" "" ""
code_row (C.Yaml AnchorOrAlias) = syntax "anchors and aliases are not supported" "" ""
code_row (C.Yaml Tag) = syntax "tags are not supported" "" ""
code_row (C.Yaml ExplicitKey) = syntax "explicit keys are not supported" "" ""
code_row (C.Yaml Directive) = syntax "directives are not supported" "" ""
code_row (C.Yaml SecondDocument) = syntax "second document" "" ""
code_row (C.Yaml WrongEscape) = syntax "wrong escape" "" ""
code_row (C.Yaml UnexpectedCharacter) = syntax "unexpected character" "" ""
code_row (C.Yaml NestingTooDeep) = syntax "nesting is too deep" "" ""
code_row (C.Yaml TooManyNodes) = syntax "too many nodes" "" ""
code_row (C.Yaml WrongBlockHeader) = syntax "wrong block scalar header" "" ""
code_row (C.Yaml WrongKey) = syntax "key is not a scalar on one line" "" ""
code_row (C.Yaml UnknownAlias) = syntax "unknown alias" "" ""
-- K, keys and their values
code_row (C.Key Unexpected) = syntax "unexpected key \"" "\"" ""
code_row (C.Key Missing) = syntax "key \"" "\" is missing" ""
code_row (C.Key Repeated) = syntax "key \"" "\" is repeated" ""
code_row (C.Key WrongKind) = syntax "wrong kind of value for \"" "\"" ""
code_row (C.Key WrongType) = syntax "wrong type of value for \"" "\"" ""
code_row (C.Key NotBeside) = syntax "\"" "\" cannot stand beside \"" "\""
code_row (C.Key EmptyFile) = syntax "file is empty" "" ""
-- G, rules of a single file
code_row (C.Rule UnknownEvent) = row "events" "unknown event \"" "\"" ""
code_row (C.Rule UnknownActivity) = row "events" "unknown activity type \"" "\"" ""
code_row (C.Rule WrongPattern) = row "glob" "wrong filter pattern \"" "\"" ""
code_row (C.Rule WrongSchedule) = row "events" "wrong schedule \"" "\"" ""
code_row (C.Rule ScheduleTooOften) =
    row "events" "schedule \"" "\" runs more often than every 5 minutes" ""
code_row (C.Rule WrongId) = row "id" "wrong id \"" "\"" ""
code_row (C.Rule RepeatedId) = row "id" "id \"" "\" is repeated" ""
code_row (C.Rule UndefinedJob) = row "job-needs" "job \"" "\" is not defined" ""
code_row (C.Rule NeedsCycle) = row "job-needs" "\"" "\" needs \"" "\" in a cycle"
code_row (C.Rule WrongMatrix) = row "matrix" "wrong shape of matrix \"" "\"" ""
code_row (C.Rule UnknownMatrixRow) = row "matrix" "\"" "\" is not a matrix row" ""
code_row (C.Rule UnknownShell) = row "shell-name" "unknown shell \"" "\"" ""
code_row (C.Rule UnknownPermission) = row "permissions" "unknown permission \"" "\"" ""
code_row (C.Rule WrongPermission) = row "permissions" "wrong permission value \"" "\"" ""
code_row (C.Rule WrongVariable) = row "env-var" "wrong name \"" "\" of environment variable" ""
code_row (C.Rule PasswordNotExpression) = row "credentials" "password must be one expression" "" ""
code_row (C.Rule DeprecatedCommand) = row "deprecated-commands" "command \"" "\" is deprecated" ""
code_row (C.Rule AlwaysTrue) = row "if-cond" "condition is always true" "" ""
code_row (C.Rule UnknownInputType) = row "events" "unknown input type \"" "\"" ""
code_row (C.Rule UnknownUsing) = row "action" "unknown using \"" "\"" ""
code_row (C.Rule MissingShell) = row "action" "shell is required here" "" ""
code_row (C.Rule MissingOutputValue) = row "action" "output \"" "\" needs a value" ""
-- X, expressions
code_row (C.Expression BadCharacter) = expression "bad character in expression" "" ""
code_row (C.Expression UnclosedText) = expression "text in expression is not closed" "" ""
code_row (C.Expression UnexpectedToken) = expression "unexpected token \"" "\"" ""
code_row (C.Expression EndsEarly) = expression "expression ends too early" "" ""
code_row (C.Expression TooLong) = expression "expression is too long" "" ""
code_row (C.Expression TooDeep) = expression "expression is too deep" "" ""
code_row (C.Expression UndefinedContext) = expression "context \"" "\" is not defined" ""
code_row (C.Expression UnavailableContext) = expression "context \"" "\" is not available here" ""
code_row (C.Expression UndefinedFunction) = expression "function \"" "\" is not defined" ""
code_row (C.Expression UnavailableFunction) = expression "function \"" "\" is not available here" ""
code_row (C.Expression ArgumentCount) = expression "wrong number of arguments for \"" "\"" ""
code_row (C.Expression ArgumentType) = expression "wrong type of argument " " of \"" "\""
code_row (C.Expression UndefinedProperty) = expression "property \"" "\" is not defined" ""
code_row (C.Expression NotIndexable) = expression "value cannot be indexed" "" ""
code_row (C.Expression NotComparable) = expression "values cannot be compared" "" ""
code_row (C.Expression WrongPlaceholder) = expression "wrong placeholder in format" "" ""
code_row (C.Expression UnusedArgument) = expression "argument " " of format is not used" ""
code_row (C.Expression NotText) = expression "object or array in a text" "" ""
code_row (C.Expression Untrusted) = expression "\"" "\" is untrusted, pass it by env" ""
code_row (C.Expression UnclosedChunk) = expression "braces of expression are not closed" "" ""
-- C, calls
code_row (C.Call NoWorkflow by) = row_of_call by "workflow \"" "\" is not in the folder" ""
code_row (C.Call UndefinedInput by) = row_of_call by "input \"" "\" is not defined in \"" "\""
code_row (C.Call MissingInput by) = row_of_call by "required input \"" "\" of \"" "\" is missing"
code_row (C.Call WrongInput by) = row_of_call by "input \"" "\" must be " ""
code_row (C.Call UndefinedSecret by) = row_of_call by "secret \"" "\" is not defined in \"" "\""
code_row (C.Call MissingSecret by) = row_of_call by "required secret \"" "\" of \"" "\" is missing"
code_row (C.Call WrongUses by) = row_of_call by "\"" "\" is not a valid uses" ""
code_row (C.Call NotCallable by) = row_of_call by "\"" "\" cannot be called here" ""
code_row (C.Call CallCycle by) = row_of_call by "call of \"" "\" leads back to this file" ""
