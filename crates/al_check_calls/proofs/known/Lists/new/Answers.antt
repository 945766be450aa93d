use Rattle.al_check_calls.proofs.KnownLists.{none_placed}
use Rattle.al_check_calls.proofs.known.Lists.new.Goals as goal

pub returns : goal.returns
returns c = λ naming. none_placed naming (record { positions = c.new.result; lists = c.new-2.result }) c.new.ensures.empty
