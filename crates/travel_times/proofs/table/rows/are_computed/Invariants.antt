use Rattle.std.proofs.Common.{◌≡◌, ℕ, ◌+◌, ◌*◌, ◌<◌, slice_index}
use Rattle.travel_times.proofs.Common.{never}
use Rattle.travel_times.proofs.table.rows.are_computed.Given as goal

abbrev pub invariant-loop-row : goal.invariant-loop-row
invariant-loop-row l = (i : ℕ) → i < l.row → slice_index l.cells (i * l.count + i) ≡ never → ⊥
