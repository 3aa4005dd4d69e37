use Rattle.std.proofs.Common.{length}
use Rattle.travel_times.proofs.Common.{IsNetwork, work_left, IsSearching}
use Rattle.travel_times.proofs.table.plain.seconds_from.Given as goal

abbrev pub invariant-loop-node : goal.invariant-loop-node
invariant-loop-node l = IsSearching l.network.arcs (length l.network.nodes) l.start l.seconds.items l.waiting.items × IsNetwork l.network

abbrev pub decreases-loop-node : goal.decreases-loop-node
decreases-loop-node l = work_left l.seconds.items l.waiting.items
