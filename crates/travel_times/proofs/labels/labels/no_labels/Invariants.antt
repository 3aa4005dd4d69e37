use Rattle.std.proofs.Common.{◌≡◌, [], replicate}
use Rattle.travel_times.proofs.labels.labels.no_labels.Given as goal

abbrev pub invariant-loop : goal.invariant-loop
invariant-loop l = l.labels.items ≡ replicate l.counter []
