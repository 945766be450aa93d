use Rattle.std.proofs.Common.{refl}
use Rattle.std.specs.Str.{chars, is_utf8}
use Rattle.std.specs.Str.Lossy.{utf8_lossy, utf8_valid_len}
use Rattle.al_check_calls.proofs.examples.rows.Goals as goal
use lib.Utf8.{encode}

-- each row is proved by computation
pub returns : goal.returns
unfolding utf8_lossy utf8_valid_len is_utf8 chars encode
returns c = record {
  absent_action = refl;
  unreadable_action = refl;
  missing_input = refl;
  workflow_for_a_step = refl;
  absent_workflow = refl;
  not_callable = refl;
  wrong_type = refl;
  any_type = refl;
  secrets = refl;
  inherited = refl;
}
