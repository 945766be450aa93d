-- What the matches of a command line ask for.
use Rattle.std.proofs.Common.{◌≡◌, List, [], true, Result, Ok, Err, inl, inr}
use Rattle.std.specs.Prelude.{OnOk}
use Rattle.clap.specs.Words.{HasKind, Row, Text, kind_of}
use Rattle.clap.specs.declared.error.Error.{Error}
use Rattle.al_cli_words.specs.Words.{HasHelp, IsHelp, IsNoRun, IsSaidAs, IsUsage, kinds_in, rows_in}
use Rattle.al_cli_words.specs.declared.words.Usage.{Usage}
use Rattle.al_cli_words.specs.declared.words.Usage.TheVariants as usage

-- an error is reported by its kind, which is one of those that the words can have
pub said : (words : List Text) (e : Error) (u : Usage) → HasKind (kinds_in words) e → IsSaidAs (kind_of e) u → IsUsage words u
said words e usage.Session has spoken = absurd spoken
said words e (usage.Help text) has spoken = absurd spoken
said words e (usage.Clap text) (inl memory) spoken = absurd (spoken memory)
said words e (usage.Clap text) (inr among) spoken = (kind_of e, among)
said words e usage.Memory has spoken = tt

-- why words without errors don't ask for a run
pub not_run : (words : List Text) (u : Usage) → kinds_in words ≡ [] → IsNoRun (rows_in words) u → IsUsage words u
not_run words usage.Session right why = (right, why)
not_run words (usage.Help text) right why = (right, why)
not_run words (usage.Clap text) right why = absurd why
not_run words usage.Memory right why = tt

-- the answer to `--help`
pub helped : (rows : List Row) (u : Usage) → HasHelp rows true → IsHelp u → IsNoRun rows u
helped rows usage.Session has help = absurd help
helped rows (usage.Help text) has help = has
helped rows (usage.Clap text) has help = absurd help
helped rows usage.Memory has help = tt

-- a fact that doesn't depend on the result
pub on_ok : {T S : Type 0} (r : Result T S) {P : Type 0} → P → OnOk r P
on_ok (Ok x) p = p
on_ok (Err e) p = tt
