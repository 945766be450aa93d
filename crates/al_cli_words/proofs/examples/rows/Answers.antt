-- Each row is proved by computation.
use Rattle.std.proofs.Common.{refl}
use Rattle.clap.proofs.OnLiterals.{clap_on_literals}
use Rattle.al_cli_words.specs.Words.{kinds_in, linter_app, rows_in}
use Rattle.al_cli_words.proofs.examples.rows.Goals as goal

pub returns : goal.returns
unfolding clap_on_literals linter_app kinds_in rows_in
returns c = record {
  none = refl;
  all = refl;
  root = refl;
  files = refl;
  minus = refl;
  minus_file = refl;
  beside = refl;
  session = refl;
  help = refl;
  helped = refl;
  help_beside = refl;
  help_twice = refl;
  short = refl;
  unknown = refl;
  no_folder = refl;
}
