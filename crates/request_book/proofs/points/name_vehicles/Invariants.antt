use Rattle.std.proofs.Common.{◌≡◌, ◌++◌, ◌+◌, ◌*◌, ◌≤◌, length, take}
use Rattle.std.specs.List.{flat_map}
use Rattle.request_book.specs.lemmas.Points.{vehicle_nodes}
use Rattle.request_book.proofs.points.name_vehicles.Given as goal

abbrev pub invariant-loop-vehicle : goal.invariant-loop-vehicle
invariant-loop-vehicle l =
    (l.nodes.items ≡ l.initial.nodes.items ++ flat_map vehicle_nodes (take l.vehicle-index l.vehicles))
    × (length l.nodes.items ≤ length l.initial.nodes.items + 21 * l.vehicle-index)
