use Rattle.std.proofs.Common.{ℕ, map, take, append_assoc}
use Rattle.rebalancing.proofs.Common.{map_more, travel_time, weight_of}
use Rattle.rebalancing.proofs.weights.push_row.Goals as goal

pub loop-other-preserved : goal.loop-other-preserved
loop-other-preserved c =
    let f : ℕ → ℕ = λ other. weight_of (travel_time c.args.times.now c.args.place other) in
    let wanted = c.args.wanted.now in
    let i = c.loop-other.other-index in
    rw (c.in_ok-push.ensures.items, c.loop-other.invariant, c.weight.ensures, c.seconds.ensures, map_more f wanted i 0 c.loop-other-test.true)
    (append_assoc c.args.weights.now.items (map f (take i wanted)) _)
