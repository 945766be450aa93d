use Rattle.al_laws.proofs.DocumentBounds.{gives-tree, reads-all}
use Rattle.al_laws.proofs.documents.document_bound.Goals as goal

pub returns : goal.returns
returns c = record { reads = reads-all; tree = gives-tree }
