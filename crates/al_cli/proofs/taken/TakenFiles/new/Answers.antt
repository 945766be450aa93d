use Rattle.std.proofs.Common.{◌∙◌, ap}
use Rattle.al_cli.specs.Private.Kept.{entries_in}
use Rattle.al_cli.proofs.Keeping.{kept_none}
use Rattle.al_cli.proofs.taken.TakenFiles.new.Goals as goal

pub invariant_of-result : goal.invariant_of-result
invariant_of-result c = rw (c.seeded.ensures.folder, c.seeded.ensures.checks ∙ c.for_one_report.ensures.checks, c.new.ensures.items) kept_none

pub returns : goal.returns
returns c = ap (entries_in c.seeded.result.folder) c.new.ensures.items
