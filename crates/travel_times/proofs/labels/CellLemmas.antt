-- Cells of a table, row by row.
use Rattle.std.proofs.Common.{◌≡◌, ℕ, ◌+◌, ◌*◌, ◌/◌, ◌%◌, ◌<◌, List, length, slice_index, ap, ◌∙◌, subst, arith}
use Rattle.travel_times.proofs.Common.{Arc, IsTimeBetween, AreCells}
use Rattle.std.proofs.lemmas.Nat.{mul-add-lt, div-mul-add, mod-mul-add}

-- the cell in row i and column j has the time between these points
pub times_of_cells : (arcs : List Arc) (points cells : List ℕ) → length cells ≡ length points * length points → AreCells arcs points 0 cells
    → (i j : ℕ) → i < length points → j < length points → IsTimeBetween arcs (slice_index points i) (slice_index points j)
    (slice_index cells (i * length points + j))
times_of_cells arcs points cells size are i j hi hj =
    let n : ℕ = length points in
    let inside : i * length points + j < length points * length points = mul-add-lt i (length points) j (length points) hi hj in
    let front : 0 + (i * length points + j) ≡ i * length points + j = omega arith in
    let row : (0 + (i * length points + j)) / length points ≡ i = ap (λ x. x / length points) front ∙ div-mul-add i (length points) j hj in
    let column : (0 + (i * length points + j)) % length points ≡ j = ap (λ x. x % length points) front ∙ mod-mul-add i (length points) j hj in
    subst (λ r. IsTimeBetween arcs (slice_index points r) (slice_index points j) (slice_index cells (i * length points + j))) row
    (subst (λ c. IsTimeBetween arcs (slice_index points ((0 + (i * length points + j)) / length points)) (slice_index points c)
    (slice_index cells (i * length points + j))) column
    (are (i * length points + j) (omega (arith, size, inside))))
