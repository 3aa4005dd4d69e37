use Rattle.std.proofs.Common.{ℕ, ◌<◌}
use Rattle.report_audit.proofs.Common.{travel_time, IsRowOf, TellsRow}
use Rattle.report_audit.proofs.points.trips.row_of_trip.Given as goal

abbrev pub invariant-loop-row : goal.invariant-loop-row
invariant-loop-row l = (k : ℕ) → k < l.row → IsRowOf l.graphs.graph.now l.vehicle k → TellsRow l.graphs.instance.now.points.now
    (travel_time l.graphs.instance.now.times.now) l.graphs.instance.now.settled.now l.graphs.graph.now l.vehicle k l.trip → ⊥
