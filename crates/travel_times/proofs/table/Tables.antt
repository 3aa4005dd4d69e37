use Rattle.std.proofs.Common.{rules, ◌≡◌, ℕ, ◌+◌, ◌-◌, ◌*◌, ◌<◌, ◌≤◌, List, ◌++◌, length, slice_index, map, All, Bool, Some, ap, ◌∙◌, inl, inr, arith}
use Rattle.travel_times.proofs.Common.{
  position_or_len,
  cases_lt,
  nat_tests,
  mul-add-lt,
  get_or_append_left,
  get_or-append_right,
  get_or-map,
  length-map,
  get_or_default,
  cell_of,
  IsTable,
  Arc,
  IsTimeBetween,
  IsArcAmong,
  AreRows,
}
use Rattle.std.specs.List.{position}
use Rattle.std.proofs.lemmas.List.{length-append}
use Rattle.pool_base.proofs.lemmas.TravelTimeLemmas.{cell_of-within, cell_of-from_outside, cell_of-to_outside}
use Rattle.travel_times.proofs.lemmas.search.WalkLemmas.{time_range, time_to_itself, time_triangle}

-- rows, and the rows after them
pub AreRows-append : (arcs : List Arc) (points : List ℕ) (from count more : ℕ) (cells rows : List ℕ) → AreRows arcs points from count cells →
    AreRows arcs points (from + count) more rows → AreRows arcs points from (count + more) (cells ++ rows)
AreRows-append arcs points from count more cells rows first second = record {
  size = omega (arith, length-append cells rows, first.size, second.size);
  times = λ i j hi hj. elim (cases_lt i count) [
    | inl lt ↦
        let place = mul-add-lt i (length points) j count lt hj in
        rw (get_or_append_left cells rows 0 (i * length points + j) (omega (arith, first.size))) (first.times i j lt hj)
    | inr le ↦
        let product : i * length points ≡ count * length points + (i - count) * length points =
        ap (λ x. x * length points) (let e : i ≡ count + (i - count) = omega arith in e) ∙ omega arith in
        let at : i * length points + j - count * length points ≡ (i - count) * length points + j = omega arith in
        let node : from + count + (i - count) ≡ from + i = omega arith in
        rw (get_or-append_right cells rows (count * length points) (i * length points + j) 0 first.size (omega arith), at)
        (rw node at (second.times (i - count) j (omega arith) hj))
  ];
}

-- one row, as a search gives it
pub AreRows-one : (arcs : List Arc) (points : List ℕ) (n from : ℕ) (seconds : List ℕ) → All (λ point. point < n) points
    → ((goal : ℕ) → goal < n → IsTimeBetween arcs (slice_index points from) goal (slice_index seconds goal)) →
    AreRows arcs points from 1 (map (λ point. slice_index seconds point) points)
AreRows-one arcs points n from seconds known times = record {
  size = omega (arith, length-map points (λ point. slice_index seconds point));
  times = λ i j hi hj.
      let first : i ≡ 0 = omega arith in
      let node : from + i ≡ from = omega arith in
      let place : i * length points + j ≡ j = rw first (omega arith) in
      rw (node, place, get_or-map (λ (point : ℕ). slice_index seconds point) points j 0 0 hj) (times (slice_index points j) (known j 0 hj));
}

-- the place at which a look-up found something
pub position-is : {X : Type 0} (p : X → Bool) (xs : List X) (i : ℕ) → position p xs ≡ Some i → position_or_len p xs ≡ i
position-is p xs i h = grind (arith, nat_tests)

-- a cell of the rows from every point is the travel time
pub time_in_rows : (arcs : List Arc) (points cells : List ℕ) → AreRows arcs points 0 (length points) cells → (a b : ℕ) → a < length points → b < length points →
    IsTimeBetween arcs (slice_index points a) (slice_index points b) (cell_of (length points) cells a b)
time_in_rows arcs points cells rows a b ha hb = search (rules, mul-add-lt, cell_of-within, get_or_default)

-- rows of travel times from every point make a table
pub IsTable-from_rows : (arcs : List Arc) (n : ℕ) (points cells : List ℕ) → All (IsArcAmong n) arcs → n ≤ 100000 → All (λ point. point < n) points →
    AreRows arcs points 0 (length points) cells → IsTable (length points) cells
IsTable-from_rows arcs n points cells among few known rows = grind (
  arith,
  nat_tests,
  (time_in_rows arcs points cells rows),
  cell_of-from_outside,
  cell_of-to_outside,
  (time_range arcs n),
  (time_to_itself arcs),
  (time_triangle arcs),
)
