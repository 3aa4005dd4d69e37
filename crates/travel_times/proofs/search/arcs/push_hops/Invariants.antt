use Rattle.std.proofs.Common.{◌≡◌, ◌++◌, take}
use Rattle.travel_times.proofs.search.arcs.push_hops.Given as goal

abbrev pub invariant-loop-hop : goal.invariant-loop-hop
invariant-loop-hop l = l.hops.items ≡ l.initial.hops.items ++ take l.hop-index l.leaving
