use Rattle.dispatch_engine.proofs.Common.{AllZip, range_with_len, travel_time, vehicle_at, IsLate}
use Rattle.std.specs.List.{filter}
use Rattle.dispatch_engine.proofs.outcome.late.late_lines.Given as goal

abbrev pub invariant-loop-vehicle : goal.invariant-loop-vehicle
invariant-loop-vehicle l = AllZip (IsLate l.instance.points.now (travel_time l.instance.times.now) l.instance.settled.now)
    (filter (λ v. (vehicle_at l.instance.settled.now v).late) (range_with_len 0 l.vehicle)) l.lines.items
