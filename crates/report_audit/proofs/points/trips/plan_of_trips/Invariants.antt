use Rattle.report_audit.proofs.Common.{travel_time}
use Rattle.report_audit.proofs.lemmas.points.TripLemmas.{IsPlanSoFar}
use Rattle.report_audit.proofs.points.trips.plan_of_trips.Given as goal

abbrev pub invariant-loop-vehicle : goal.invariant-loop-vehicle
invariant-loop-vehicle l = IsPlanSoFar l.graphs.instance.now.points.now (travel_time l.graphs.instance.now.times.now) l.graphs.instance.now.settled.now
    l.graphs.graph.now l.trips l.vehicle l.place l.chosen.items
