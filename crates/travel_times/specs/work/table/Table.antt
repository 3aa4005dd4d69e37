use Rattle.std.specs.Prelude.{◌≡◌, ℕ, ◌+◌, ◌*◌, ◌<◌, ◌≤◌, ◌⊎◌, List, All, length, slice_index}
use Rattle.pool_base.specs.TravelTime.{never}
use Rattle.road_network.specs.declared.arc.Arc.{Arc}
use Rattle.road_network.specs.Walk.{IsTimeBetween}

-- the cells are so many rows of travel times, from the points at `from` and after to all points
pub record AreRows (arcs : List Arc) (points : List ℕ) (from count : ℕ) (cells : List ℕ) : Type 0 where
  pub size : length cells ≡ count * length points
  pub times : (i j : ℕ) → i < count → j < length points → IsTimeBetween arcs (slice_index points (from + i)) (slice_index points j) (slice_index cells (i * length points + j))

-- row i of the cells has the travel times from its point, one of those at `from` and after, to all points
abbrev pub IsRowAt : List Arc → List ℕ → ℕ → List ℕ → ℕ → Type 0
IsRowAt arcs points from cells i = (j : ℕ) → j < length points → IsTimeBetween arcs (slice_index points (from + i)) (slice_index points j) (slice_index cells (i * length points + j))

-- a row that was not computed tells of no way from its point to itself
abbrev pub IsUnwritten : List ℕ → ℕ → List ℕ → ℕ → Type 0
IsUnwritten points from cells i = slice_index cells (i * length points + (from + i)) ≡ never

-- the cells are so many rows, each computed or not
pub record AreWritten (arcs : List Arc) (points : List ℕ) (from count : ℕ) (cells : List ℕ) : Type 0 where
  pub size : length cells ≡ count * length points
  pub each : (i : ℕ) → i < count → IsRowAt arcs points from cells i ⊎ IsUnwritten points from cells i

-- the cells from `start` on of a table of n points that was not written yet: whole rows
pub record IsPiece (n start : ℕ) (cells : List ℕ) : Type 0 where
  pub from : ℕ
  pub count : ℕ
  pub begins : start ≡ from * n
  pub size : length cells ≡ count * n
  pub within : from + count ≤ n
  pub unwritten : All (λ cell. cell ≡ never) cells

-- what becomes of such a piece
abbrev pub IsPieceWritten : List Arc → List ℕ → ℕ → List ℕ → List ℕ → Type 0
IsPieceWritten arcs points start before after =
    (from count : ℕ) → start ≡ from * length points → length before ≡ count * length points → AreWritten arcs points from count after

-- the seconds of the points stand in the cells from `at` on, and the other cells stay as they were
pub record WritesRow (points seconds : List ℕ) (at : ℕ) (before after : List ℕ) : Type 0 where
  pub size : length after ≡ length before
  pub written : (j : ℕ) → j < length points → slice_index after (at + j) ≡ slice_index seconds (slice_index points j)
  pub others : (k : ℕ) → (k < at) ⊎ (at + length points ≤ k) → slice_index after k ≡ slice_index before k
