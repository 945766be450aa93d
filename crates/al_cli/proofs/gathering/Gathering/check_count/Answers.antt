use Rattle.al_base.specs.Limits.{most_files}
use Rattle.al_cli.proofs.Listing.{path_at}
use Rattle.al_cli.proofs.gathering.Gathering.check_count.Goals as goal

pub returns-in-Some-clause-many : goal.returns-in-Some-clause-many
returns-in-Some-clause-many c = (
  c.in-Some.path.now,
  path_at c.nth.result c.in-Some.path c.iter.result c.nth.new.self c.args.listed.now.keys most_files c.in-Some.is c.iter.ensures.rest
      c.nth.ensures.ran,
  rw c.as_str.ensures.value at c.refusal.ensures,
)
