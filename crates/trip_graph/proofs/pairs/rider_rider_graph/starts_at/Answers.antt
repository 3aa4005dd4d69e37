use Rattle.std.proofs.Common.{refl}
use Rattle.trip_graph.proofs.Common.{travel_time}
use Rattle.trip_graph.proofs.pairs.PairTasks.{found_serves}
use Rattle.trip_graph.proofs.pairs.rider_rider_graph.starts_at.Goals as goal

pub returns-clause-serves : goal.returns-clause-serves
returns-clause-serves g c =
    let task = record c.args.task.now { start = c.args.place } in
    found_serves (travel_time c.args.times.now) task task c.in_ok-cost.cost c.is_some.result refl c.is_some.ensures c.in_ok-cost.ensures.least
    c.in_ok-cost.ensures.none
