-- The linter's command line needs only the simple part of clap's definitions.
use Rattle.std.proofs.Common.{refl, true, ◌≡◌}
use Rattle.clap.specs.Words.{is_simple, is_simple_and_free}
use Rattle.clap.proofs.OnLiterals.{clap_on_literals}
use Rattle.al_cli_words.specs.Words.{linter_app}

pub simple : is_simple linter_app ≡ true
unfolding clap_on_literals linter_app
simple = refl

pub free : is_simple_and_free linter_app ≡ true
unfolding clap_on_literals linter_app
free = refl
