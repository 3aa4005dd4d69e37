use Rattle.std.proofs.Common.{◌≡◌, ℕ, ◌<◌, map}
use Rattle.road_network.specs.Roads.{hop_of, leaving}
use Rattle.road_hierarchy.proofs.table.same.are_same.Given as goal

abbrev pub invariant-loop-node : goal.invariant-loop-node
invariant-loop-node l = (node : ℕ) → node < l.node → map hop_of (leaving node l.a.arcs) ≡ map hop_of (leaving node l.b.arcs)
