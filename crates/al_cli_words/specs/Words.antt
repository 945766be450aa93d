-- The command line: its options, in terms of clap's definitions, and what its words ask for.
use Rattle.std.specs.Prelude.{◌≡◌, ◌≢◌, ◌⊎◌, Bool, true, false, List, [], ◌∷◌, Option, Some, None}
use Rattle.std.specs.Prelude.{map, unwrap_or, codes}
use Rattle.std.specs.List.{fold}
use Rattle.clap.specs.Words.{App, IsAmong, Kinds, Row, Rule, Text, all_of, fault_of, first_of}
use Rattle.clap.specs.Words.{one_of, matches_of, new_app, new_rule}
use Rattle.clap.specs.Words.{with_rule}
use Rattle.clap.specs.Simple.{on_top}
use Rattle.clap.specs.declared.builder.action.ArgAction.{ArgAction}
use Rattle.clap.specs.declared.builder.action.ArgAction.TheVariants.{Append, Set, SetTrue}
use Rattle.clap.specs.declared.error.kind.ErrorKind.{ErrorKind}
use Rattle.clap.specs.declared.error.kind.ErrorKind.TheVariants.{OutOfMemory}
use Rattle.al_cli_words.specs.declared.words.Words.{Words}
use Rattle.al_cli_words.specs.declared.words.Usage.{Usage}
use Rattle.al_cli_words.specs.declared.words.Usage.TheVariants as usage

-- the option that is written as two minuses and this name
abbrev pub option_rule : Text → ArgAction → Rule
option_rule name action = record (new_rule name) { long = Some name; action = Some action }

abbrev pub root_rule : Rule
root_rule = record (option_rule (codes "root") Set) { value_names = 1 }

abbrev pub file_rule : Rule
file_rule = record (new_rule (codes "file")) { action = Some Append; value_names = 1 }

-- there is no `-h`, and `--help` is a flag
abbrev pub bare_app : App
bare_app = on_top (λ s. record s { disable_help_flag = true }) (new_app (codes "actionlint"))

-- `actionlint [--oneline] [--root DIR] [--session] [--help] [FILE]...`
unfoldable pub linter_app : App
linter_app = fold with_rule bare_app
    (option_rule (codes "oneline") SetTrue ∷ root_rule ∷ option_rule (codes "session") SetTrue
    ∷ option_rule (codes "help") SetTrue ∷ file_rule ∷ [])

-- what clap finds in these words, the first of which is the program's name
unfoldable pub rows_in : List Text → List Row
rows_in words = matches_of linter_app words

-- a flag is false if it is unset, otherwise the value of its text
pub record IsFlag (text : Option Text) (flag : Bool) : Type 0 where
  pub unset : text ≡ None → flag ≡ false
  pub on : text ≡ Some (codes "true") → flag ≡ true
  pub off : text ≡ Some (codes "false") → flag ≡ false

abbrev pub root_in : List Row → Option Text
root_in rows = first_of (codes "root") rows

abbrev pub files_in : List Row → List Text
files_in rows = unwrap_or (all_of (codes "file") rows) []

-- `--help` is given or not
abbrev pub HasHelp : List Row → Bool → Type 0
HasHelp rows given = IsFlag (one_of (codes "help") rows) given

-- the matches ask for these words, and not for help: the flags, DIR and FILEs are theirs, and a
-- script has neither FILEs nor DIR
pub record AsksFor (rows : List Row) (words : Words) : Type 0 where
  pub no_help : HasHelp rows false
  pub oneline : IsFlag (one_of (codes "oneline") rows) words.oneline
  pub session : IsFlag (one_of (codes "session") rows) words.session
  pub root : words.root.now ≡ unwrap_or (root_in rows) (codes ".")
  pub files : map (λ file. file.now) words.files.items ≡ files_in rows
  pub alone : words.session ≡ true → (root_in rows ≡ None) × (files_in rows ≡ [])

-- `--session` is given together with files or `--root`
pub record AreBeside (rows : List Row) : Type 0 where
  pub session : IsFlag (one_of (codes "session") rows) true
  pub beside : (root_in rows ≢ None) ⊎ (files_in rows ≢ [])

-- the kinds of errors that clap may return in place of matches; none if nothing is wrong with the
-- words by themselves
unfoldable pub kinds_in : List Text → Kinds
kinds_in words = fault_of linter_app words

-- how an error of this kind is reported
abbrev pub IsSaidAs : ErrorKind → Usage → Type 0
IsSaidAs kind usage.Session = ⊥
IsSaidAs kind (usage.Help text) = ⊥
IsSaidAs kind (usage.Clap text) = kind ≢ OutOfMemory
IsSaidAs kind usage.Memory = Unit {0}

-- help, unless memory ran out
abbrev pub IsHelp : Usage → Type 0
IsHelp usage.Session = ⊥
IsHelp (usage.Help text) = Unit {0}
IsHelp (usage.Clap text) = ⊥
IsHelp usage.Memory = Unit {0}

-- why matches don't ask for a run
abbrev pub IsNoRun : List Row → Usage → Type 0
IsNoRun rows usage.Session = AreBeside rows
IsNoRun rows (usage.Help text) = HasHelp rows true
IsNoRun rows (usage.Clap text) = ⊥
IsNoRun rows usage.Memory = Unit {0}

-- why words don't ask for a run: they combine what can't be combined; nothing is wrong with them,
-- and they ask for help; they are wrong in another way; or memory ran out
abbrev pub IsUsage : List Text → Usage → Type 0
IsUsage words usage.Session = (kinds_in words ≡ []) × AreBeside (rows_in words)
IsUsage words (usage.Help text) = (kinds_in words ≡ []) × HasHelp (rows_in words) true
IsUsage words (usage.Clap text) = (kind : ErrorKind) × IsAmong kind (kinds_in words)
IsUsage words usage.Memory = Unit {0}
