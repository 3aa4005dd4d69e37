use Rattle.std.proofs.Common.{◌≡◌, ℕ, ◌+◌, ◌<◌, eqb, take, count_by, length, slice_index}
use Rattle.travel_times.proofs.Common.{Hop}
use Rattle.travel_times.proofs.labels.rank.count_reaching.Given as goal

abbrev pub invariant-loop-hop : goal.invariant-loop-hop
invariant-loop-hop l = (node : ℕ) → node < length l.initial.counts → slice_index l.counts node ≡ slice_index l.initial.counts node + count_by
    (λ (hop : Hop). eqb hop.to node) (take l.hop-index l.hops)
