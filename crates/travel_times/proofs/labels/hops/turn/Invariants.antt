use Rattle.travel_times.proofs.Common.{TurnsHops}
use Rattle.travel_times.proofs.labels.hops.turn.Given as goal

abbrev pub invariant-loop-hop : goal.invariant-loop-hop
invariant-loop-hop l = TurnsHops l.node l.leaving l.hop-index l.initial.hops.items l.hops.items
