-- Each row is proved by computation.
use Rattle.std.proofs.Common.{refl}
use Rattle.al_expr_typing.proofs.worked.placeholder_rows.Goals as goal

pub returns : goal.returns
returns c = record {
  empty = refl;
  one_of_two = refl;
  twice = refl;
  zero_in_front = refl;
  ten = refl;
  braces = refl;
  in_braces = refl;
  past_the_arguments = refl;
  no_digit = refl;
  letter = refl;
  letter_after = refl;
  opening_alone = refl;
  index_open = refl;
  closing_alone = refl;
}
