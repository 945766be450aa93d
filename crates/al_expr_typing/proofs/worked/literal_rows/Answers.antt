-- Each row is proved by computation.
use Rattle.std.proofs.Common.{refl}
use Rattle.std.specs.Str.{chars}
use Rattle.al_expr_typing.proofs.worked.literal_rows.Goals as goal
use lib.Utf8.{encode}

pub returns : goal.returns
unfolding chars encode
returns c = record {
  empty = refl;
  plain = refl;
  doubled = refl;
  quote = refl;
  quotes = refl;
  two_bytes = refl;
}
