use Rattle.std.proofs.Common.{◌≡◌, ℕ, ◌<◌, ◌≤◌, slice_index_or}
use Rattle.trip_graph.proofs.Common.{no_row}
use Rattle.trip_graph.proofs.batch.rows.row_with.Given as goal

abbrev pub invariant-loop-k : goal.invariant-loop-k
invariant-loop-k l = (i : ℕ) → l.from ≤ i → i < l.k → (slice_index_or l.rows i no_row).riders.items ≡ l.riders → ⊥
