use Rattle.std.proofs.Common.{subst}
use Rattle.al_session_folder.specs.Kept.{folder_of}
use Rattle.al_session.specs.Private.Graphs.{IsGraphIf}
use Rattle.al_session.proofs.calls.linked_files.Goals as goal

pub new-requires : goal.new-requires
new-requires g c = record {
  kept = c.requires.kept;
  calls = subst (IsGraphIf g.L.Lint.meaning (folder_of c.args.files.now.entries)) c.in-Some.is c.requires.graph;
}
