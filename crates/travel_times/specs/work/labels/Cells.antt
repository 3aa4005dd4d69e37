use Rattle.std.specs.Prelude.{ℕ, ◌+◌, ◌<◌, ◌/◌, ◌%◌, List, length, slice_index}
use Rattle.road_network.specs.declared.arc.Arc.{Arc}
use Rattle.road_network.specs.Walk.{IsTimeBetween}

-- the cells from `start` on of a table, row by row, have the travel times between its points
abbrev pub AreCells : List Arc → List ℕ → ℕ → List ℕ → Type 0
AreCells arcs points start cells =
    (k : ℕ) → k < length cells → IsTimeBetween arcs (slice_index points ((start + k) / length points)) (slice_index points ((start + k) % length points)) (slice_index cells k)
