use Rattle.std.proofs.Common.{refl}
use Rattle.std.specs.Str.{chars, is_utf8}
use Rattle.std.specs.Str.Lossy.{utf8_lossy, utf8_valid_len}
use Rattle.memchr.specs.Find.{matches_from}
use Rattle.al_rules.proofs.examples.rows.Goals as goal
use lib.Utf8.{encode}

-- each row is proved by computation
pub returns : goal.returns
unfolding matches_from chars utf8_lossy utf8_valid_len is_utf8 encode
returns c = record {
  unknown_event = refl;
  wrong_activity = refl;
  wrong_patterns = refl;
  schedules = refl;
  input_types = refl;
  ids = refl;
  needs = refl;
  matrix = refl;
  settings = refl;
  password = refl;
  step = refl;
  using_is_unknown = refl;
  composite = refl;
}
