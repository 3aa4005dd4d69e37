use Rattle.std.proofs.Common.{◌≡◌, take}
use Rattle.travel_times.proofs.labels.hops.copy_hops.Given as goal

abbrev pub invariant-loop-hop : goal.invariant-loop-hop
invariant-loop-hop l = l.hops ≡ take l.hop-index l.leaving
