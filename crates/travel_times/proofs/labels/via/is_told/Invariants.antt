use Rattle.std.proofs.Common.{ℕ, ◌+◌, ◌<◌, ◌≤◌, get_or, slice_index}
use Rattle.travel_times.proofs.labels.via.is_told.Given as goal

abbrev pub invariant-loop-hub : goal.invariant-loop-hub
invariant-loop-hub l = (k : ℕ) → k < l.hub-index → slice_index l.via (get_or l.label k (record { node = 0; seconds = 0 })).node +
    (get_or l.label k (record { node = 0; seconds = 0 })).seconds ≤ l.most → ⊥
