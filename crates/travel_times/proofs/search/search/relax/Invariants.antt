use Rattle.travel_times.proofs.Common.{RelaxesHops}
use Rattle.travel_times.proofs.search.search.relax.Given as goal

abbrev pub invariant-loop-hop : goal.invariant-loop-hop
invariant-loop-hop l = RelaxesHops l.hops l.hop-index l.here l.initial.seconds l.initial.waiting l.seconds l.waiting
