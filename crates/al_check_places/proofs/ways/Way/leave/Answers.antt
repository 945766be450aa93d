use Rattle.std.proofs.Common.{arith}
use Rattle.std.specs.Prelude.{vec_len}
use Rattle.al_check_places.proofs.Prefixes.{left_item, left_value}
use Rattle.al_check_places.proofs.ways.Way.leave.Goals as goal

pub invariant_of-self : goal.invariant_of-self
invariant_of-self c =
    let way = c.args.self.now in
    record {
      keyed = left_value way.steps.items c.pop.new.self.items c.pop.result c.in-Some-Under.field-0 c.in-Some-Under.field-0-0 way.keys.items
          c.pop-in-Some-Under.new.self.items (vec_len way.keys) c.pop.ensures.items c.in-Some-Under.is c.in-Some-Under.field-0-is (omega (arith, way.keys.ok.0))
          c.pop-in-Some-Under.ensures.rest way.keyed;
    }

pub invariant_of-self-in-Some-Nth : goal.invariant_of-self-in-Some-Nth
invariant_of-self-in-Some-Nth c =
    let way = c.args.self.now in
    record {
      keyed = left_item way.steps.items c.pop.new.self.items c.pop.result c.in-Some-Nth.field-0 c.in-Some-Nth.field-0-0 way.keys.items c.pop.ensures.items
          c.in-Some-Nth.is c.in-Some-Nth.field-0-is way.keyed;
    }
