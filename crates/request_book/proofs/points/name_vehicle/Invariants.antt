use Rattle.std.proofs.Common.{◌≡◌, ◌++◌, ◌+◌, ◌*◌, ◌≤◌, ◌∷◌, [], length, take}
use Rattle.std.specs.List.{flat_map}
use Rattle.request_book.proofs.points.name_vehicle.Given as goal

abbrev pub invariant-loop-passenger : goal.invariant-loop-passenger
invariant-loop-passenger l =
    (l.nodes.items ≡ l.initial.nodes.items ++ flat_map (λ p. p.origin ∷ p.destination ∷ []) (take l.passenger-index l.passenger-items))
    × (length l.nodes.items ≤ length l.initial.nodes.items + 2 * l.passenger-index)
