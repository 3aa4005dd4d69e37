use Rattle.std.proofs.Common.{List, ℕ, length}
use Rattle.travel_times.proofs.Common.{Arc, IsClean, AreMadeFrom, AreLabelled}
use Rattle.travel_times.proofs.labels.labels.label_by_rank.Given as goal

abbrev pub invariant-loop-node : goal.invariant-loop-node
invariant-loop-node g l = record {
  clean : IsClean (length l.hops.ahead.now) l.space.seconds.items l.space.waiting.items l.space.taken.items l.space.via.items;
  labelled : (arcs : List Arc) (rank : List ℕ) → AreMadeFrom arcs rank l.order l.hops.ahead.now l.hops.back.now →
      AreLabelled arcs rank (length l.hops.ahead.now) l.node-index l.forward l.backward;
}
