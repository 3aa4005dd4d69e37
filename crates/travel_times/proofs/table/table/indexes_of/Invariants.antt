use Rattle.std.proofs.Common.{◌≡◌, ◌<◌, All, length, map, take}
use Rattle.travel_times.proofs.Common.{index_in}
use Rattle.travel_times.proofs.table.table.indexes_of.Given as goal

abbrev pub invariant-loop-node : goal.invariant-loop-node
invariant-loop-node l = (l.points.items ≡ map (index_in l.network.nodes) (take l.node-index l.nodes)) × All (λ point. point < length l.network.nodes)
    l.points.items
