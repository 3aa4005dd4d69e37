use Rattle.std.proofs.Common.{◌≡◌, map, take}
use Rattle.request_book.proofs.register.running.number_vehicles.Given as goal

abbrev pub invariant-loop-vehicle : goal.invariant-loop-vehicle
invariant-loop-vehicle l = l.ids.names ≡ map (λ v. v.id) (take l.vehicle-index l.vehicles)
