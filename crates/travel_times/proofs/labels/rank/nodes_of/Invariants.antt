use Rattle.std.proofs.Common.{◌≡◌, map, take}
use Rattle.travel_times.proofs.labels.rank.nodes_of.Given as goal

abbrev pub invariant-loop-key : goal.invariant-loop-key
invariant-loop-key l = l.nodes.items ≡ map (λ key. key.1) (take l.key-index l.keys)
