use Rattle.std.proofs.Common.{refl}
use Rattle.al_scalar.proofs.examples.rows.Goals as goal

pub returns-clause-hex : goal.returns-clause-hex
unfolding lib.Utf8.encode
returns-clause-hex c = refl

pub returns-clause-letters : goal.returns-clause-letters
unfolding lib.Utf8.encode
returns-clause-letters c = refl

pub returns-clause-wide_letters : goal.returns-clause-wide_letters
unfolding lib.Utf8.encode
returns-clause-wide_letters c = refl

pub returns-clause-numbers : goal.returns-clause-numbers
unfolding lib.Utf8.encode
returns-clause-numbers c = refl

pub returns-clause-escaped_break : goal.returns-clause-escaped_break
unfolding lib.Utf8.encode
returns-clause-escaped_break c = refl

pub returns-clause-blanks_first : goal.returns-clause-blanks_first
unfolding lib.Utf8.encode
returns-clause-blanks_first c = refl

pub returns-clause-surrogate : goal.returns-clause-surrogate
unfolding lib.Utf8.encode
returns-clause-surrogate c = refl

pub returns-clause-too_large : goal.returns-clause-too_large
unfolding lib.Utf8.encode
returns-clause-too_large c = refl

pub returns-clause-no_escape : goal.returns-clause-no_escape
unfolding lib.Utf8.encode
returns-clause-no_escape c = refl

pub returns-clause-wrong_digit : goal.returns-clause-wrong_digit
unfolding lib.Utf8.encode
returns-clause-wrong_digit c = refl

pub returns-clause-digit_after_break : goal.returns-clause-digit_after_break
unfolding lib.Utf8.encode
returns-clause-digit_after_break c = refl

pub returns-clause-cut_escape : goal.returns-clause-cut_escape
unfolding lib.Utf8.encode
returns-clause-cut_escape c = refl
