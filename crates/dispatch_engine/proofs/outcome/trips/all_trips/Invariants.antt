use Rattle.std.proofs.Common.{not}
use Rattle.dispatch_engine.proofs.Common.{AllZip, range_with_len, travel_time, vehicle_at, IsTripOf}
use Rattle.std.specs.List.{filter}
use Rattle.dispatch_engine.proofs.outcome.trips.all_trips.Given as goal

abbrev pub invariant-loop-vehicle : goal.invariant-loop-vehicle
invariant-loop-vehicle g l = AllZip (IsTripOf l.graphs.instance.now.points.now (travel_time l.graphs.instance.now.times.now) l.graphs.instance.now.settled.now
    l.graphs.graph.now l.chosen) (filter (λ v. not (vehicle_at l.graphs.instance.now.settled.now v).late) (range_with_len 0 l.vehicle)) l.trips.items
