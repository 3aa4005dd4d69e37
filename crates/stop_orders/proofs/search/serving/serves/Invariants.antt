use Rattle.std.proofs.Common.{drop}
use Rattle.stop_orders.proofs.Common.{point_count, travel_time}
use Rattle.stop_orders.proofs.lemmas.search.ScanLemmas.{ServingScan}
use Rattle.stop_orders.proofs.search.serving.serves.Given as goal

abbrev pub invariant-loop-stop : goal.invariant-loop-stop
invariant-loop-stop l = ServingScan (point_count l.times) (travel_time l.times) l.task l.stops (drop l.stop-index l.stops) l.position
