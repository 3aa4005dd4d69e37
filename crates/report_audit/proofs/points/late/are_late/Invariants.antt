use Rattle.std.proofs.Common.{◌↔◌, drop, length}
use Rattle.report_audit.proofs.Common.{AllZip, travel_time, vehicle_at, IsLate}
use Rattle.dispatch_engine.specs.outcome.Trips.{AreLate}
use Rattle.report_audit.proofs.lemmas.points.WalkLemmas.{passing}
use Rattle.report_audit.proofs.points.late.are_late.Given as goal

abbrev pub invariant-loop-vehicle : goal.invariant-loop-vehicle
invariant-loop-vehicle l =
    AreLate l.instance.points.now (travel_time l.instance.times.now) l.instance.settled.now l.late
    ↔ AllZip (IsLate l.instance.points.now (travel_time l.instance.times.now) l.instance.settled.now)
    (passing (λ v. (vehicle_at l.instance.settled.now v).late) (length l.instance.settled.now.vehicles) l.vehicle) (drop l.place l.late)
