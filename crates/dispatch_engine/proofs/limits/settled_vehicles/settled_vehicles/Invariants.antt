use Rattle.std.proofs.Common.{◌≡◌, ℕ, ◌<◌, length, Some, slice_index_or}
use Rattle.dispatch_engine.proofs.Common.{travel_time, Vehicle, no_vehicle, IsSettledVehicle}
use Rattle.std.specs.List.{slice_get}
use Rattle.dispatch_engine.proofs.limits.settled_vehicles.settled_vehicles.Given as goal

abbrev pub invariant-loop-vehicle : goal.invariant-loop-vehicle
invariant-loop-vehicle l = record {
  count : length l.settled.items ≡ l.vehicle-index;
  each : (k : ℕ) (x : Vehicle) → k < l.vehicle-index → slice_get l.vehicles k ≡ Some x
      → IsSettledVehicle l.basis.settings.now l.basis.points.now (travel_time l.basis.times.now) l.basis.sealed_at l.basis.requests.now l.basis.plain.now x
      (slice_index_or l.settled.items k no_vehicle);
}
