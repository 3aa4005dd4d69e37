use Rattle.std.proofs.Common.{drop}
use Rattle.stop_orders.proofs.Common.{point_count, travel_time}
use Rattle.stop_orders.proofs.lemmas.search.ScanLemmas.{DelayScan}
use Rattle.stop_orders.proofs.search.serving.delay_of.Given as goal

abbrev pub invariant-loop-stop : goal.invariant-loop-stop
invariant-loop-stop l = DelayScan (point_count l.times) (travel_time l.times) l.task l.stops (drop l.stop-index l.stops) l.place l.free l.delay
