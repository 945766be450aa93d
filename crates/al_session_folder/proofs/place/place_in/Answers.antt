use Rattle.std.proofs.Common.{rules}
use Rattle.al_session_folder.proofs.Places.{paths_of-folder_of}
use Rattle.al_session_folder.proofs.Searches.{place_from_entries}
use Rattle.al_session_folder.proofs.place.place_in.Goals as goal

pub returns : goal.returns
returns g c = place_from_entries c.args.path.now c.args.files.now.entries _ c.binary_search_by.result
    (paths_of-folder_of c.args.files.now.entries) c.requires c.binary_search_by.ensures.bound c.binary_search_by.ensures.position
    (λ a o q k. search rules)
