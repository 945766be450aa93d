use Rattle.std.specs.Prelude.{is_ok}
use Rattle.al_check_places.proofs.Prefixes.{entered_item}
use Rattle.al_check_places.proofs.ways.Way.enter_item.Goals as goal

pub invariant_of-self : goal.invariant_of-self
invariant_of-self c =
    let way = c.args.self.now in
    record { keyed = entered_item (is_ok c.push.result) way.steps.items c.push.new.self.items c.args.i way.keys.items c.push.ensures.items way.keyed }
