use Rattle.std.proofs.Common.{drop}
use Rattle.dispatch_engine.proofs.Common.{point_count, travel_time}
use Rattle.dispatch_engine.proofs.outcome.ToldLemmas.{ToldScan}
use Rattle.dispatch_engine.proofs.outcome.told.tell_stops.Given as goal

abbrev pub invariant-loop-stop : goal.invariant-loop-stop
invariant-loop-stop g l = ToldScan (point_count l.instance.times.now) l.instance.points.now (travel_time l.instance.times.now) l.instance.settled.now l.vehicle
    l.trip l.task g.row.N l.stops (drop l.stop-index l.stops) l.place l.free l.told.items
