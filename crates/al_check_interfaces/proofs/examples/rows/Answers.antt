use Rattle.std.proofs.Common.{refl}
use Rattle.std.specs.Str.{chars, is_utf8}
use Rattle.al_check_interfaces.proofs.examples.rows.Goals as goal
use lib.Utf8.{encode}

pub returns-clause-folder : goal.returns-clause-folder
unfolding is_utf8 chars encode
returns-clause-folder c = refl

pub returns-clause-slash_after : goal.returns-clause-slash_after
unfolding is_utf8 chars encode
returns-clause-slash_after c = refl

pub returns-clause-root : goal.returns-clause-root
unfolding is_utf8 chars encode
returns-clause-root c = refl

pub returns-clause-root_with_a_slash : goal.returns-clause-root_with_a_slash
unfolding is_utf8 chars encode
returns-clause-root_with_a_slash c = refl

pub returns-clause-two_slashes : goal.returns-clause-two_slashes
unfolding is_utf8 chars encode
returns-clause-two_slashes c = refl

pub returns-clause-above_the_root : goal.returns-clause-above_the_root
unfolding is_utf8 chars encode
returns-clause-above_the_root c = refl

pub returns-clause-workflow : goal.returns-clause-workflow
unfolding is_utf8 chars encode
returns-clause-workflow c = refl

pub returns-clause-control_byte : goal.returns-clause-control_byte
unfolding is_utf8 chars encode
returns-clause-control_byte c = refl
