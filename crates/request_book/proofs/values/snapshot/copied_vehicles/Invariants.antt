use Rattle.std.proofs.Common.{◌≡◌, take}
use Rattle.request_book.proofs.values.snapshot.copied_vehicles.Given as goal

abbrev pub invariant-loop-vehicle : goal.invariant-loop-vehicle
invariant-loop-vehicle l = l.copy.items ≡ take l.vehicle-index l.vehicles
