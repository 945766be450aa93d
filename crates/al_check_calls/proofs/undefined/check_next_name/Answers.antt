use Rattle.std.proofs.Common.{sym, ◌∙◌}
use Rattle.al_check_calls.specs.Private.ComparisonViews.{name_of}
use Rattle.al_check_calls.proofs.UndefinedNames.{same_there}
use Rattle.al_check_calls.proofs.undefined.check_next_name.Goals as goal

pub returns-in-Some : goal.returns-in-Some
returns-in-Some c =
    same_there (name_of c.in-Some.before) (name_of c.args.name) c.args.faults.now (rw c.in-Some.is at c.requires.alike) (rw c.in-Some.is at c.requires.there)
    (sym c.is_same_name_given.ensures ∙ c.if-is_same_name_given.true)
