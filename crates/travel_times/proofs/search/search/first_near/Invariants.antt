use Rattle.std.proofs.Common.{◌≡◌, ℕ, ◌<◌, true, slice_index}
use Rattle.travel_times.proofs.Common.{waits}
use Rattle.travel_times.proofs.search.search.first_near.Given as goal

abbrev pub invariant-loop-node : goal.invariant-loop-node
invariant-loop-node l = (k : ℕ) → k < l.node → waits l.waiting k ≡ true → l.most < slice_index l.seconds k
