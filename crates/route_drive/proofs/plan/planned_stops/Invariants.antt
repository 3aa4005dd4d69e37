use Rattle.std.proofs.Common.{◌≡◌, drop, find, ◌==◌}
use Rattle.route_drive.proofs.Common.{ChosenTrip}
use Rattle.route_drive.proofs.plan.planned_stops.Given as goal

abbrev pub invariant-loop-trip : goal.invariant-loop-trip
invariant-loop-trip l = find (λ (trip : ChosenTrip). trip.vehicle == l.vehicle) l.trip-items ≡ find (λ (trip : ChosenTrip). trip.vehicle == l.vehicle)
    (drop l.trip-index l.trip-items)
