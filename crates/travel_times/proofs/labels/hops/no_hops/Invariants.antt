use Rattle.std.proofs.Common.{◌≡◌, [], replicate}
use Rattle.travel_times.proofs.labels.hops.no_hops.Given as goal

abbrev pub invariant-loop : goal.invariant-loop
invariant-loop l = l.hops.items ≡ replicate l.counter []
