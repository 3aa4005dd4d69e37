use Rattle.std.proofs.Common.{◌≡◌, ℕ, ◌<◌, get_or}
use Rattle.travel_times.proofs.labels.checked.are_same.Given as goal

abbrev pub invariant-loop-place : goal.invariant-loop-place
invariant-loop-place l = (k : ℕ) → k < l.place → get_or l.label k (record { node = 0; seconds = 0 }) ≡ get_or l.other k (record { node = 0; seconds = 0 })
