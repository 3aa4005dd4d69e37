use Rattle.std.proofs.Common.{arith, refl, rules}
use Rattle.dispatch_engine.proofs.limits.settled_vehicles.placed_vehicle.Goals as goal

pub returns-clause-placed : goal.returns-clause-placed
returns-clause-placed c =
    let passengers = c.as_slice-passengers.ensures.value in
    record {
      id = refl;
      start = c.place_of.ensures.place;
      ready = cc (c.from.ensures, c.max-ready.ensures, c.get.ensures.value, c.get-2.ensures.value);
      seats = refl;
      aboard_count = rw passengers at c.legs_of.ensures.count;
      aboard_legs = rw passengers at c.legs_of.ensures.legs;
      aboard_ids = rw passengers at c.ids_of.ensures;
    }

pub returns-clause-valid : goal.returns-clause-valid
returns-clause-valid c =
    let passengers = c.as_slice-passengers.ensures.value in
    record {
      start = c.place_of.ensures.within;
      ready = omega (arith, c.from.ensures, c.max-ready.ensures, c.get.ensures.within, c.get-2.ensures.within);
      dwell = c.args.settings.now.in_range.dwell_most;
      seats = c.requires.seats.most;
      seated = omega (arith, rw passengers at c.legs_of.ensures.persons, c.requires.seats.enough);
      passenger_count = search rules;
      rider_count = omega arith;
      passengers = c.legs_of.ensures.valid;
      riders = λ k d l. absurd (omega (arith, l));
    }
