use Rattle.std.proofs.Common.{ℕ, ◌<◌, Contains, get_or}
use Rattle.travel_times.proofs.table.table.are_known.Given as goal

abbrev pub invariant-loop-node : goal.invariant-loop-node
invariant-loop-node l = (k d : ℕ) → k < l.node-index → Contains l.network.nodes (get_or l.nodes k d)
