-- A table is written by pieces, each of whole rows.
use Rattle.std.proofs.Common.{rules, ◌≡◌, ℕ, ◌+◌, ◌-◌, ◌*◌, ◌/◌, ◌<◌, ◌≤◌, ◌⊎◌, min, List, length, slice_index, drop, All, sym, ap, ◌∙◌, subst, inl, inr, arith}
use Rattle.travel_times.proofs.Common.{
  IsChunk,
  slice_chunk,
  cases_lt,
  mul-add-lt,
  never,
  Arc,
  IsTimeBetween,
  AreRows,
  IsRowAt,
  IsUnwritten,
  AreWritten,
  IsPiece,
  IsPieceWritten,
  WritesRow,
}
use Rattle.std.proofs.Math.Nat.{mul-le-mul_right, mod-eq-sub-div-mul, div-mul-le_self, lt-div-mul-add, mul-div_cancel}
use Rattle.std.proofs.lemmas.List.{get_or-take, get_or-drop, length-take, length-drop}

-- so many rows, or those that are left
piece_size : (rows n q : ℕ) → q ≤ n → min (rows * n) (n * n - q * n) ≡ min rows (n - q) * n
piece_size rows n q h =
    let product : n * n ≡ q * n + (n - q) * n = ap (λ x. x * n) (let apart : n ≡ q + (n - q) = omega arith in apart) ∙ omega arith in
    elim (cases_lt rows (n - q)) as (λ _. min (rows * n) (n * n - q * n) ≡ min rows (n - q) * n) [
      | inl lt ↦
          let le : rows * n ≤ (n - q) * n = mul-le-mul_right n (let w : rows ≤ n - q = omega arith in w) in
          let few : min rows (n - q) ≡ rows = omega arith in
          rw few (omega arith)
      | inr ge ↦
          let le : (n - q) * n ≤ rows * n = mul-le-mul_right n ge in
          let few : min rows (n - q) ≡ n - q = omega arith in
          rw few (omega arith)
    ]

-- a chunk of a table that wasn't written is such a piece
pub piece_of_chunk : (n rows start : ℕ) (cells chunk : List ℕ) → 0 < rows → 0 < n → length cells ≡ n * n → All (λ cell. cell ≡ never) cells →
    IsChunk cells (rows * n) start chunk → IsPiece n start chunk
piece_of_chunk n rows start cells chunk some points size unwritten is =
    let begins : start ≡ start / (rows * n) * rows * n = omega (
      arith,
      is.start_is_multiple,
      mod-eq-sub-div-mul start (rows * n),
      div-mul-le_self start
          (rows * n),
    ) in
    let bounds = is.in_bounds in
    let inside : start / (rows * n) * rows < n = elim (cases_lt (start / (rows * n) * rows) n) [
      | inl lt ↦ lt
      | inr ge ↦ absurd (let le : n * n ≤ start / (rows * n) * rows * n = mul-le-mul_right n ge in omega (arith, is.nonempty))
    ] in
    let left : length cells - start ≡ n * n - start / (rows * n) * rows * n = omega (arith, size, begins) in
    record {
      from = start / (rows * n) * rows;
      count = min rows (n - start / (rows * n) * rows);
      begins = begins;
      size = is.len ∙ ap (λ x. min (rows * n) x) left ∙ piece_size rows n (start / (rows * n) * rows) (omega arith);
      within = omega arith;
      unwritten = λ k d lt. rw (is.elements k d lt) (unwritten (start + k) d (omega arith));
    }

-- where each chunk was written, the table was
pub written_of_chunks : (arcs : List Arc) (points : List ℕ) (rows : ℕ) (before after : List ℕ) → 0 < rows → 0 < length points
    → length before ≡ length points * length points → length after ≡ length points * length points
    → ((p : ℕ) → p * (rows * length points) < length before → IsPieceWritten arcs points (p * (rows * length points))
    (slice_chunk before (rows * length points) p) (slice_chunk after (rows * length points) p))
    → AreWritten arcs points 0 (length points) after
written_of_chunks arcs points rows before after some many size same chunk = record { size = same; each = λ i lt. row i lt }
  where
    row : (i : ℕ) → i < length points → IsRowAt arcs points 0 after i ⊎ IsUnwritten points 0 after i
    row i lt =
        let m : ℕ = length points in
        let p : ℕ = i / rows in
        let k : ℕ = i - p * rows in
        let low : i / rows * rows ≤ i = div-mul-le_self i rows in
        let high : i < i / rows * rows + rows = lt-div-mul-add some in
        let here : i ≡ p * rows + k = omega arith in
        let assoc : p * (rows * m) ≡ p * rows * m = omega arith in
        let before_i : p * rows * m ≤ i * m = mul-le-mul_right m low in
        let row_end : i * m + 0 < m * m = mul-add-lt i m 0 m lt many in
        let product : i * m ≡ p * rows * m + k * m = ap (λ x. x * m) here ∙ omega arith in
        let cut : length (slice_chunk before (rows * m) p) ≡ min (rows * m) (length before - p * (rows * m)) =
        omega (arith, length-take (rows * m) (drop (p * (rows * m)) before), length-drop (p * (rows * m)) before) in
        let long : length (slice_chunk before (rows * m) p) ≡ min rows (m - p * rows) * m = cut ∙
        rw (size, assoc) (piece_size rows m (p * rows) (omega arith)) in
        let at : (j : ℕ) → j < m → slice_index (slice_chunk after (rows * m) p) (k * m + j) ≡ slice_index after (i * m + j) = λ j h.
        let inside : k * m + j < m * rows = mul-add-lt k m j rows (omega arith) h in
        let place : p * (rows * m) + (k * m + j) ≡ i * m + j = omega (arith, assoc, product) in
        get_or-take (rows * m) (drop (p * (rows * m)) after) (k * m + j) 0 (omega arith) ∙ get_or-drop (p * (rows * m)) after (k * m + j) 0 ∙
        ap (λ x. slice_index after x) place in
        elim ((chunk p (omega arith) (p * rows) (min rows (m - p * rows)) assoc long).each k (omega arith)) [
          | inl right ↦ inl (λ j h. subst (λ x. IsTimeBetween arcs (slice_index points x) (slice_index points j) (slice_index after (i * m + j)))
              (let e : p * rows + k ≡ 0 + i = omega arith in e)
              (subst (λ x. IsTimeBetween arcs (slice_index points (p * rows + k)) (slice_index points j) x) (at j h) (right j h)))
          | inr left ↦ inr (ap (λ x. slice_index after (i * m + x)) (let e : 0 + i ≡ i = omega arith in e) ∙ sym (at i lt) ∙
              ap (λ x. slice_index (slice_chunk after (rows * m) p) (k * m + x)) here ∙ left)
        ]

-- the rows so far are computed, and the others are not written yet
pub record IsWriting (arcs : List Arc) (points : List ℕ) (from count row : ℕ) (cells : List ℕ) : Type 0 where
  pub size : length cells ≡ count * length points
  pub computed : (i : ℕ) → i < row → IsRowAt arcs points from cells i
  pub rest : (k : ℕ) → row * length points ≤ k → k < length cells → slice_index cells k ≡ never

module _ (arcs : List Arc) (points : List ℕ) (start : ℕ) (before : List ℕ) (some : 0 < length points) (piece : IsPiece (length points) start before) where
  -- what is read off the numbers of a piece
  numbers_of : (from count : ℕ) → start ≡ from * length points → length before ≡ count * length points →
      (start / length points ≡ from) × (length before / length points ≡ count)
  numbers_of from count e f = (ap (λ x. x / length points) e ∙ mul-div_cancel from some, ap (λ x. x / length points) f ∙ mul-div_cancel count some)

  -- nothing was written yet
  pub writing_none : IsWriting arcs points (start / length points) (length before / length points) 0 before
  writing_none = search (rules, numbers_of)

  pub row_within : (row : ℕ) → row < length before / length points → start / length points + row < length points
  row_within row lt = search (rules, numbers_of)

  -- what was written so far is right
  pub writing_ends : (row : ℕ) (after : List ℕ) → row ≤ length before / length points → IsWriting arcs points (start / length points)
      (length before / length points) row after → IsPieceWritten arcs points start before after
  writing_ends row after upto w from count begins size =
      let e = numbers_of from count begins size in
      let same : length after ≡ count * length points = w.size ∙ ap (λ x. x * length points) e.1 in
      record {
        size = same;
        each = λ i lt. elim (cases_lt i row) as (λ _. IsRowAt arcs points from after i ⊎ IsUnwritten points from after i) [
          | inl low ↦ inl (subst (λ f. IsRowAt arcs points f after i) e.0 (w.computed i low))
          | inr high ↦
              let there = row_within i (omega (arith, e.1)) in
              let above : row * length points ≤ i * length points = mul-le-mul_right (length points) high in
              let below = mul-add-lt i (length points) (from + i) count lt (omega (arith, e.0, there)) in
              inr (w.rest (i * length points + (from + i)) (omega arith) (omega arith))
        ];
      }

-- one row more
pub writing_more : (arcs : List Arc) (points seconds : List ℕ) (from count row nodes : ℕ) (before after : List ℕ) → row < count → from + row < length points →
    All (λ point. point < nodes) points
    → ((goal : ℕ) → goal < nodes → IsTimeBetween arcs (slice_index points (from + row)) goal (slice_index seconds goal))
    → WritesRow points seconds (row * length points) before after → IsWriting arcs points from count row before →
    IsWriting arcs points from count (row + 1) after
writing_more arcs points seconds from count row nodes before after lt within known times wrote w = record {
  size = wrote.size ∙ w.size;
  computed = λ i h j hj. elim (cases_lt i row) as (λ _. IsTimeBetween arcs (slice_index points (from + i)) (slice_index points j)
      (slice_index after (i * length points + j))) [
        | inl low ↦
            let inside = mul-add-lt i (length points) j row low hj in
            rw (wrote.others (i * length points + j) (inl (omega arith))) (w.computed i low j hj)
        | inr high ↦
            let here : i ≡ row = omega arith in
            rw (here, wrote.written j hj) (times (slice_index points j) (known j 0 hj))
      ];
  rest = λ k le h. wrote.others k (inr (omega arith)) ∙ w.rest k (omega arith) (omega (arith, wrote.size));
}

-- where each row tells of a way from its point to itself, all are computed
pub rows_of_written : (arcs : List Arc) (points cells : List ℕ) → AreWritten arcs points 0 (length points) cells →
    ((i : ℕ) → i < length points → slice_index cells (i * length points + i) ≡ never → ⊥) → AreRows arcs points 0 (length points) cells
rows_of_written arcs points cells w all = search rules
