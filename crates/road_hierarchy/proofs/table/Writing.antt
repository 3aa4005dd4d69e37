-- A table is written row by row.
use Rattle.std.proofs.Common.{◌≡◌, ◌⊎◌, ℕ, ◌+◌, ◌-◌, ◌*◌, ◌/◌, ◌%◌, ◌<◌, ◌≤◌, inl, inr, List, length, slice_index, All, sym, ap, ◌∙◌, subst, arith}
use Rattle.std.proofs.lemmas.Bool.{cases_eq, cases_lt}
use Rattle.std.proofs.lemmas.Nat.{mul-add-lt, div-mul-add, mod-mul-add}
use Rattle.std.proofs.Math.Nat.{mul-le-mul_right, mod-eq-sub-div-mul, div-mul-le_self, lt-div-mul-add, mul-div_cancel}
use Rattle.std.specs.Fork.{IsChunk}
use Rattle.road_network.specs.Roads.{Roads}
use Rattle.road_network.specs.Walk.{IsTimeBetween}
use Rattle.road_hierarchy.specs.work.sweeps.Lanes.{lane_cell}
use Rattle.road_hierarchy.specs.work.sweeps.Sweep.{closed_cell}
use Rattle.road_hierarchy.specs.work.table.Part.{AreCellsFrom, IsCellAt, IsPiece, IsWriting, WritesRow, unwritten}

-- before the first row
pub writing_none : (roads : Roads) (points : List ℕ) (from : ℕ) (cells : List ℕ) → All (λ cell. cell ≡ unwritten) cells → IsWriting roads points from 0 cells
writing_none roads points from cells fresh = record { done = λ i j lt. absurd (omega (arith, lt)); rest = λ k le lt. fresh k 0 lt }

-- a row more
pub writing_more : (roads : Roads) (points turned : List ℕ) (rows : List (List ℕ)) (lane from row : ℕ) (before after : List ℕ)
    → IsWriting roads points from row before → length turned ≡ length points → WritesRow turned rows lane (row * length points) before after
    → ((j : ℕ) → j < length points → IsTimeBetween roads.arcs (slice_index points (from + row)) (slice_index points j)
    (closed_cell (lane_cell rows (slice_index turned j) lane))) → IsWriting roads points from (row + 1) after
writing_more roads points turned rows lane from row before after writing long writes times = record {
  done = λ i j hi hj. elim (cases_eq i row) [
    | inl e ↦
        let place : row * length points + j ≡ i * length points + j = ap (λ x. x * length points + j) (sym e) in
        subst (λ x. IsTimeBetween roads.arcs (slice_index points (from + x)) (slice_index points j) (slice_index after (i * length points + j))) (sym e)
        (subst (λ k. IsTimeBetween roads.arcs (slice_index points (from + row)) (slice_index points j) (slice_index after k)) place
        (subst (λ x. IsTimeBetween roads.arcs (slice_index points (from + row)) (slice_index points j) x) (sym (writes.written j (omega (arith, hj, long))))
        (times j hj)))
    | inr ne ↦
        let earlier : i < row = omega (arith, hi, ne) in
        let low : i * length points + j < row * length points = (let le : (i + 1) * length points ≤ row * length points = mul-le-mul_right (length points)
        (let w : i + 1 ≤ row = omega (arith, earlier) in w) in omega (arith, le, hj)) in
        subst (λ x. IsTimeBetween roads.arcs (slice_index points (from + i)) (slice_index points j) x)
        (sym (writes.others (i * length points + j) (inl low))) (writing.done i j earlier hj)
  ];
  rest = λ k le lt. writes.others k (inr (omega (arith, le, long))) ∙ writing.rest k (omega (arith, le)) (omega (arith, lt, writes.size));
}

-- when all rows are written, the piece is
pub writing_all : (roads : Roads) (points : List ℕ) (start row : ℕ) (before after : List ℕ) → IsPiece (length points) start before
    → length after ≡ length before → IsWriting roads points (start / length points) row after → AreCellsFrom roads points start after
writing_all roads points start row before after piece size writing k lt =
    let n : ℕ = length points in
    let i : ℕ = k / length points in
    let j : ℕ = k - k / length points * length points in
    let low : k / length points * length points ≤ k = div-mul-le_self k (length points) in
    let high : k < k / length points * length points + length points = lt-div-mul-add piece.some in
    let hj : k - k / length points * length points < length points = omega (arith, low, high) in
    let place : k / length points * length points + (k - k / length points * length points) ≡ k = omega (arith, low) in
    let sum : start + k ≡ (start / length points + k / length points) * length points + (k - k / length points * length points) = omega
    (arith, piece.begins, low) in
    let row_is : (start + k) / length points ≡ start / length points + k / length points = ap (λ x. x / length points) sum ∙ div-mul-add
    (start / length points + k / length points) (length points) (k - k / length points * length points) hj in
    let column_is : (start + k) % length points ≡ k - k / length points * length points = ap (λ x. x % length points) sum ∙ mod-mul-add
    (start / length points + k / length points) (length points) (k - k / length points * length points) hj in
    elim (cases_lt (k / length points) row) [
      | inl early ↦ inl (subst (λ r. IsTimeBetween roads.arcs (slice_index points r) (slice_index points ((start + k) % length points))
          (slice_index after k)) (sym row_is)
          (subst (λ c. IsTimeBetween roads.arcs (slice_index points (start / length points + k / length points)) (slice_index points c)
          (slice_index after k)) (sym column_is)
          (subst (λ x. IsTimeBetween roads.arcs (slice_index points (start / length points + k / length points))
          (slice_index points (k - k / length points * length points)) (slice_index after x)) place (writing.done i j early hj))))
      | inr late ↦ inr (writing.rest k (let le : row * length points ≤ k / length points * length points = mul-le-mul_right (length points) late in omega
          (arith, le, low)) lt)
    ]

-- rows of a piece are rows of the table
pub rows_within : (n start count : ℕ) (cells : List ℕ) → IsPiece n start cells → count * n ≤ length cells → start / n + count ≤ n
rows_within n start count cells piece room = elim (cases_lt n (start / n + count)) [
  | inl more ↦ absurd (let le : (n + 1) * n ≤ (start / n + count) * n = mul-le-mul_right n
      (let w : n + 1 ≤ start / n + count = omega (arith, more) in w) in omega (arith, le, piece.begins, piece.within, room, piece.some))
  | inr le ↦ le
]

-- so many rows of a piece, before those that are left
pub block_within : (n start row lanes : ℕ) (cells : List ℕ) → IsPiece n start cells → row + lanes ≤ length cells / n → (start / n + row + lanes ≤ n) ×
    ((row + lanes) * n ≤ length cells)
block_within n start row lanes cells piece few =
    let le : (row + lanes) * n ≤ length cells / n * n = mul-le-mul_right n few in
    let room : (row + lanes) * n ≤ length cells = omega (arith, le, div-mul-le_self (length cells) n) in
    (omega (arith, rows_within n start (row + lanes) cells piece room), room)

-- a chunk of a table that nobody wrote is a piece
pub piece_of_chunk : (n rows start : ℕ) (cells chunk : List ℕ) → 0 < n → length cells ≡ n * n → All (λ cell. cell ≡ unwritten) cells → IsChunk cells
    (rows * n) start chunk → IsPiece n start chunk
piece_of_chunk n rows start cells chunk some size fresh is =
    let begins : start ≡ start / (rows * n) * rows * n = omega (
      arith,
      is.start_is_multiple,
      mod-eq-sub-div-mul start (rows * n),
      div-mul-le_self start
          (rows * n),
    ) in
    let from : start / n ≡ start / (rows * n) * rows = ap (λ x. x / n) begins ∙ mul-div_cancel (start / (rows * n) * rows) some in
    record {
      some = some;
      begins = begins ∙ ap (λ x. x * n) (sym from);
      within = omega (arith, is.in_bounds, size);
      fresh = λ k d lt. is.elements k d lt ∙ fresh (start + k) d (omega (arith, is.in_bounds, lt));
    }

-- a cell of a piece is a cell of the table
pub cell_of_piece : (roads : Roads) (points : List ℕ) (start offset k cell cell' : ℕ) → start + offset ≡ k → cell ≡ cell'
    → IsCellAt roads points start offset cell → IsCellAt roads points 0 k cell'
cell_of_piece roads points start offset k cell cell' at is here =
    subst (λ x. IsCellAt roads points 0 k x) is
    (subst (λ x. IsTimeBetween roads.arcs (slice_index points (x / length points)) (slice_index points (x % length points)) cell ⊎ (cell ≡ unwritten))
    (let e : start + offset ≡ 0 + k = omega (arith, at) in e) here)

-- a cell of the whole table
pub cell_of_table : (roads : Roads) (points cells : List ℕ) → AreCellsFrom roads points 0 cells → length cells ≡ length points * length points
    → ((k : ℕ) → k < length cells → slice_index cells k ≡ unwritten → ⊥) → (i j : ℕ) → i < length points → j < length points
    → IsTimeBetween roads.arcs (slice_index points i) (slice_index points j) (slice_index cells (i * length points + j))
cell_of_table roads points cells are size none i j hi hj =
    let n : ℕ = length points in
    let inside : i * length points + j < length points * length points = mul-add-lt i (length points) j (length points) hi hj in
    let front : 0 + (i * length points + j) ≡ i * length points + j = omega arith in
    let row : (0 + (i * length points + j)) / length points ≡ i = ap (λ x. x / length points) front ∙ div-mul-add i (length points) j hj in
    let column : (0 + (i * length points + j)) % length points ≡ j = ap (λ x. x % length points) front ∙ mod-mul-add i (length points) j hj in
    let here : i * length points + j < length cells = omega (arith, size, inside) in
    elim (are (i * length points + j) here) [
      | inl time ↦
          subst (λ r. IsTimeBetween roads.arcs (slice_index points r) (slice_index points j) (slice_index cells (i * length points + j))) row
          (subst (λ c. IsTimeBetween roads.arcs (slice_index points ((0 + (i * length points + j)) / length points)) (slice_index points c)
          (slice_index cells (i * length points + j))) column time)
      | inr left ↦ absurd (none (i * length points + j) here left)
    ]
