use Rattle.std.proofs.Common.{ℕ, length, map, slice_index}
use Rattle.rebalancing.proofs.Common.{length-map, get_or-map, travel_time, weight_of}
use Rattle.rebalancing.proofs.Rows.{rows_more}
use Rattle.rebalancing.proofs.weights.weights_of.Goals as goal

pub loop-place-preserved : goal.loop-place-preserved
loop-place-preserved c =
    let n = c.loop-place.place-index in
    let wanted = c.args.wanted.now in
    let tau = travel_time c.args.times.now in
    let row = map (λ (other : ℕ). weight_of (tau (slice_index c.args.idle.now n) other)) wanted in
    rw c.in_ok-push_row.ensures
    (rows_more c.loop-place.weights.items row n (length wanted) (λ i j. weight_of (tau (slice_index c.args.idle.now i) (slice_index wanted j)))
    c.loop-place.invariant.0
    (length-map wanted (λ (other : ℕ). weight_of (tau (slice_index c.args.idle.now n) other)))
    c.loop-place.invariant.1
    (λ j h. get_or-map (λ (other : ℕ). weight_of (tau (slice_index c.args.idle.now n) other)) wanted j 0 0 h))
