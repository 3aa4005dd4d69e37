use Rattle.std.proofs.Common.{◌≡◌, ℕ, ◌*◌, ◌<◌, length, slice_index}
use Rattle.rebalancing.proofs.Common.{travel_time, weight_at, weight_of}
use Rattle.rebalancing.proofs.weights.weights_of.Given as goal

abbrev pub invariant-loop-place : goal.invariant-loop-place
invariant-loop-place l = (length l.weights.items ≡ l.place-index * length l.wanted) × ((i j : ℕ) → i < l.place-index → j < length l.wanted →
    weight_at l.weights.items (length l.wanted) i j ≡ weight_of (travel_time l.times (slice_index l.idle i) (slice_index l.wanted j)))
