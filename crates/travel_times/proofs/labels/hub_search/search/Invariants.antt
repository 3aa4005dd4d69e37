use Rattle.std.proofs.Common.{◌≡◌, ◌<◌, List, All, length}
use Rattle.travel_times.proofs.Common.{Arc, IsArcAmong, work_left, AreNodeHops, IsPruning}
use Rattle.travel_times.proofs.labels.hub_search.search.Given as goal

abbrev pub invariant-loop-node : goal.invariant-loop-node
invariant-loop-node l = record {
  seconds : length l.seconds ≡ length l.known.hops.now;
  waiting : length l.waiting ≡ length l.known.hops.now;
  pruning : (arcs : List Arc) → All (IsArcAmong (length l.known.hops.now)) arcs → AreNodeHops arcs (length l.known.hops.now) l.known.hops.now →
      IsPruning arcs (length l.known.hops.now) l.start l.known.labels.now l.known.via.now l.seconds l.waiting l.taken.items;
  taken : All (λ node. node < length l.known.hops.now) l.initial.taken.items → All (λ node. node < length l.known.hops.now) l.taken.items;
}

abbrev pub decreases-loop-node : goal.decreases-loop-node
decreases-loop-node l = work_left l.seconds l.waiting
