use Rattle.std.proofs.Common.{◌≡◌, ◌++◌, ◌+◌, ◌*◌, ◌≤◌, length, take}
use Rattle.std.specs.List.{flat_map}
use Rattle.request_book.specs.lemmas.Points.{rider_nodes}
use Rattle.request_book.proofs.points.name_riders.Given as goal

abbrev pub invariant-loop-rider : goal.invariant-loop-rider
invariant-loop-rider l =
    (l.nodes.items ≡ l.initial.nodes.items ++ flat_map rider_nodes (take l.rider-index l.riders))
    × (length l.nodes.items ≤ length l.initial.nodes.items + 2 * l.rider-index)
