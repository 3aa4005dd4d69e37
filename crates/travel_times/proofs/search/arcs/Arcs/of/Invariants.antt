use Rattle.travel_times.proofs.Common.{IsNetwork}
use Rattle.travel_times.proofs.search.ArcLemmas.{AreCopied}
use Rattle.travel_times.proofs.search.arcs.Arcs.of.Given as goal

abbrev pub invariant-loop-node : goal.invariant-loop-node
invariant-loop-node l = AreCopied l.network.arcs l.node l.ends.items l.hops.items × IsNetwork l.network
