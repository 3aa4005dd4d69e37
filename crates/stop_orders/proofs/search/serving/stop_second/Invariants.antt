use Rattle.std.proofs.Common.{drop, ◌-◌}
use Rattle.stop_orders.proofs.Common.{point_count, travel_time}
use Rattle.stop_orders.proofs.lemmas.search.ScanLemmas.{SecondScan}
use Rattle.stop_orders.proofs.search.serving.stop_second.Given as goal

abbrev pub invariant-loop-stop : goal.invariant-loop-stop
invariant-loop-stop l = SecondScan (point_count l.times) (travel_time l.times) l.task l.stops (drop l.stop-index l.stops) l.k (l.k - l.stop-index) l.place
    l.free
