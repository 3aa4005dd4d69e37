use Rattle.std.proofs.Common.{◌≡◌, ◌++◌, map, take}
use Rattle.rebalancing.proofs.Common.{travel_time, weight_of}
use Rattle.rebalancing.proofs.weights.push_row.Given as goal

abbrev pub invariant-loop-other : goal.invariant-loop-other
invariant-loop-other l = l.weights.items ≡ l.initial.weights.items ++ map (λ other. weight_of (travel_time l.times l.place other)) (take l.other-index l.wanted)
