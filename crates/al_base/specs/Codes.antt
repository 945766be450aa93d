-- The fault codes of each kind, in the order of their numbers and of reports.
use Rattle.std.specs.Prelude.{List, [], ◌∷◌}
use Rattle.al_base.specs.declared.codes.YamlCode.{YamlCode}
use Rattle.al_base.specs.declared.codes.KeyCode.{KeyCode}
use Rattle.al_base.specs.declared.codes.RuleCode.{RuleCode}
use Rattle.al_base.specs.declared.codes.ExpressionCode.{ExpressionCode}
use Rattle.al_base.specs.declared.codes.CallCode.{CallCode}
use Rattle.al_base.specs.declared.codes.YamlCode.TheVariants.{NotUtf8, ControlCharacter}
use Rattle.al_base.specs.declared.codes.YamlCode.TheVariants.{TabInIndentation, WrongIndentation}
use Rattle.al_base.specs.declared.codes.YamlCode.TheVariants.{UnclosedQuote, UnclosedFlow}
use Rattle.al_base.specs.declared.codes.YamlCode.TheVariants.{AnchorOrAlias, Tag, ExplicitKey}
use Rattle.al_base.specs.declared.codes.YamlCode.TheVariants.{Directive, SecondDocument}
use Rattle.al_base.specs.declared.codes.YamlCode.TheVariants.{WrongEscape, UnexpectedCharacter}
use Rattle.al_base.specs.declared.codes.YamlCode.TheVariants.{NestingTooDeep, TooManyNodes}
use Rattle.al_base.specs.declared.codes.YamlCode.TheVariants.{WrongBlockHeader, WrongKey}
use Rattle.al_base.specs.declared.codes.YamlCode.TheVariants.{UnknownAlias}
use Rattle.al_base.specs.declared.codes.KeyCode.TheVariants.{Unexpected, Missing, Repeated}
use Rattle.al_base.specs.declared.codes.KeyCode.TheVariants.{WrongKind, WrongType, NotBeside}
use Rattle.al_base.specs.declared.codes.KeyCode.TheVariants.{EmptyFile}
use Rattle.al_base.specs.declared.codes.RuleCode.TheVariants.{UnknownEvent, UnknownActivity}
use Rattle.al_base.specs.declared.codes.RuleCode.TheVariants.{WrongPattern, WrongSchedule}
use Rattle.al_base.specs.declared.codes.RuleCode.TheVariants.{ScheduleTooOften, WrongId, RepeatedId}
use Rattle.al_base.specs.declared.codes.RuleCode.TheVariants.{UndefinedJob, NeedsCycle, WrongMatrix}
use Rattle.al_base.specs.declared.codes.RuleCode.TheVariants.{UnknownMatrixRow, UnknownShell}
use Rattle.al_base.specs.declared.codes.RuleCode.TheVariants.{UnknownPermission, WrongPermission}
use Rattle.al_base.specs.declared.codes.RuleCode.TheVariants.{WrongVariable, PasswordNotExpression}
use Rattle.al_base.specs.declared.codes.RuleCode.TheVariants.{DeprecatedCommand, AlwaysTrue}
use Rattle.al_base.specs.declared.codes.RuleCode.TheVariants.{UnknownInputType, UnknownUsing}
use Rattle.al_base.specs.declared.codes.RuleCode.TheVariants.{MissingShell, MissingOutputValue}
use Rattle.al_base.specs.declared.codes.ExpressionCode.TheVariants.{BadCharacter, UnclosedText}
use Rattle.al_base.specs.declared.codes.ExpressionCode.TheVariants.{UnexpectedToken, EndsEarly}
use Rattle.al_base.specs.declared.codes.ExpressionCode.TheVariants.{TooLong, TooDeep}
use Rattle.al_base.specs.declared.codes.ExpressionCode.TheVariants.{UndefinedContext}
use Rattle.al_base.specs.declared.codes.ExpressionCode.TheVariants.{UnavailableContext}
use Rattle.al_base.specs.declared.codes.ExpressionCode.TheVariants.{UndefinedFunction}
use Rattle.al_base.specs.declared.codes.ExpressionCode.TheVariants.{UnavailableFunction}
use Rattle.al_base.specs.declared.codes.ExpressionCode.TheVariants.{ArgumentCount, ArgumentType}
use Rattle.al_base.specs.declared.codes.ExpressionCode.TheVariants.{UndefinedProperty, NotIndexable}
use Rattle.al_base.specs.declared.codes.ExpressionCode.TheVariants.{NotComparable, WrongPlaceholder}
use Rattle.al_base.specs.declared.codes.ExpressionCode.TheVariants.{UnusedArgument, NotText}
use Rattle.al_base.specs.declared.codes.ExpressionCode.TheVariants.{Untrusted, UnclosedChunk}
use Rattle.al_base.specs.declared.codes.CallCode.TheVariants.{NoWorkflow, UndefinedInput}
use Rattle.al_base.specs.declared.codes.CallCode.TheVariants.{MissingInput, WrongInput}
use Rattle.al_base.specs.declared.codes.CallCode.TheVariants.{UndefinedSecret, MissingSecret}
use Rattle.al_base.specs.declared.codes.CallCode.TheVariants.{WrongUses, NotCallable, CallCycle}

abbrev pub yaml_codes : List YamlCode
yaml_codes =
    NotUtf8 ∷ ControlCharacter ∷ TabInIndentation ∷ WrongIndentation ∷ UnclosedQuote ∷ UnclosedFlow
    ∷ AnchorOrAlias ∷ Tag ∷ ExplicitKey ∷ Directive ∷ SecondDocument ∷ WrongEscape
    ∷ UnexpectedCharacter ∷ NestingTooDeep ∷ TooManyNodes ∷ WrongBlockHeader ∷ WrongKey
    ∷ UnknownAlias ∷ []

abbrev pub key_codes : List KeyCode
key_codes =
    Unexpected ∷ Missing ∷ Repeated ∷ WrongKind ∷ WrongType ∷ NotBeside ∷ EmptyFile ∷ []

abbrev pub rule_codes : List RuleCode
rule_codes =
    UnknownEvent ∷ UnknownActivity ∷ WrongPattern ∷ WrongSchedule ∷ ScheduleTooOften ∷ WrongId
    ∷ RepeatedId ∷ UndefinedJob ∷ NeedsCycle ∷ WrongMatrix ∷ UnknownMatrixRow ∷ UnknownShell
    ∷ UnknownPermission ∷ WrongPermission ∷ WrongVariable ∷ PasswordNotExpression
    ∷ DeprecatedCommand ∷ AlwaysTrue ∷ UnknownInputType ∷ UnknownUsing ∷ MissingShell
    ∷ MissingOutputValue ∷ []

abbrev pub expression_codes : List ExpressionCode
expression_codes =
    BadCharacter ∷ UnclosedText ∷ UnexpectedToken ∷ EndsEarly ∷ TooLong ∷ TooDeep ∷ UndefinedContext
    ∷ UnavailableContext ∷ UndefinedFunction ∷ UnavailableFunction ∷ ArgumentCount ∷ ArgumentType
    ∷ UndefinedProperty ∷ NotIndexable ∷ NotComparable ∷ WrongPlaceholder ∷ UnusedArgument ∷ NotText
    ∷ Untrusted ∷ UnclosedChunk ∷ []

abbrev pub call_codes : List CallCode
call_codes =
    NoWorkflow ∷ UndefinedInput ∷ MissingInput ∷ WrongInput ∷ UndefinedSecret ∷ MissingSecret
    ∷ WrongUses ∷ NotCallable ∷ CallCycle ∷ []
