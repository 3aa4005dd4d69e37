use Rattle.std.proofs.Common.{length}
use Rattle.travel_times.proofs.Common.{IsNetwork, work_left, IsSearching}
use Rattle.travel_times.proofs.search.search.Search.run.Given as goal

abbrev pub invariant-loop-node : goal.invariant-loop-node
invariant-loop-node l = IsSearching l.arcs.network.now.arcs (length l.arcs.network.now.nodes) l.start l.self.seconds.items l.self.waiting.items × IsNetwork
    l.arcs.network.now

abbrev pub decreases-loop-node : goal.decreases-loop-node
decreases-loop-node l = work_left l.self.seconds.items l.self.waiting.items
