use Rattle.std.proofs.Common.{◌≡◌}
use Rattle.travel_times.proofs.search.search.next_near.Given as goal

abbrev pub invariant-loop-node : goal.invariant-loop-node
invariant-loop-node l = l.waiting ≡ l.fn.waiting

abbrev pub decreases-loop-node : goal.decreases-loop-node
decreases-loop-node l = l.ring.len
