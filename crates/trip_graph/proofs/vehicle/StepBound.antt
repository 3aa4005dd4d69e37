use Rattle.std.proofs.lemmas.Bool.Decides.{nat_tests}
use Rattle.std.proofs.Common.{◌≡◌, ℕ, ◌+◌, ◌*◌, ◌≤◌, List, [], ◌++◌, length, subst, arith}
use Rattle.trip_graph.proofs.Common.{Settled, CanServe, CostsLeast, AreAllRows, AreRowsOfSize, TakesSteps, TripOf}
use Rattle.std.proofs.lemmas.List.{length-append}
use Rattle.trip_graph.proofs.vehicle.AllRows.{some_rows, level_of_rows, rows_within}
use Rattle.trip_graph.proofs.vehicle.Joined.{AreSmaller, smaller_joined, smaller_all}

one_for_each : (x y n a b : ℕ) → a ≤ b + (x * n + 1) + y * n → a ≤ b + ((x + y) * (n + 1) + 1)
one_for_each x y n a b h = omega arith

-- no more than one search
pub at_most_one : (tau : ℕ → ℕ → ℕ) (settled : Settled) (v most room before after : ℕ) → after ≤ before + 1 → TakesSteps tau settled v most room before after
at_most_one tau settled v most room before after taken = record {
  rows = [];
  some = record { right = λ k d h. absurd (omega arith); sized = λ k d h. absurd (omega arith); rising = λ i j h k. absurd (omega arith) };
  few = omega arith;
  taken = omega arith;
}

module _ (tau : ℕ → ℕ → ℕ) (settled : Settled) (v : ℕ) (size : ℕ) (xs ys : List TripOf)
    (small : AreSmaller (CanServe 6 tau settled v) (CostsLeast tau settled v) size xs) (level : AreRowsOfSize tau settled v size ys) where
  -- the searches made so far, against the rows so far
  pub steps_so_far : (most room before after : ℕ) → size ≤ most → length xs + length ys ≤ room + 1
      → after ≤ before + (length xs * length settled.riders + 1) + length ys * length settled.riders
      → TakesSteps tau settled v most room before after
  steps_so_far most room before after h few taken =
      let both = smaller_joined (CanServe 6 tau settled v) (CostsLeast tau settled v) size xs ys small (level_of_rows tau settled v size ys level) in
      let n : length (xs ++ ys) ≡ length xs + length ys = length-append xs ys in
      record {
        rows = xs ++ ys;
        some = some_rows tau settled v (λ n. n ≤ most) (xs ++ ys) both.right (λ k d lt. let s = both.sized k d lt in omega arith) both.rising;
        few = omega arith;
        taken = rw n (one_for_each (length xs) (length ys) (length settled.riders) after before taken);
      }

  -- the steps of another level
  pub more_steps : (before after : ℕ) → after ≤ before + (length xs * length settled.riders + 1) + length ys * length settled.riders
      → after ≤ before + (length (xs ++ ys) * length settled.riders + 1)
  more_steps before after h = grind (arith, nat_tests, length-append)

  -- all rows, where this size is the last
  pub rows_of_all : (most room : ℕ) (rows : List TripOf) → size ≡ most → rows ≡ xs ++ ys → length xs + length ys ≤ room
      → AreAllRows tau settled v (λ n. n ≤ most) rows × (length rows ≤ room)
  rows_of_all most room rows e is few =
      let n : length (xs ++ ys) ≡ length xs + length ys = length-append xs ys in
      let joined = smaller_joined (CanServe 6 tau settled v) (CostsLeast tau settled v) size xs ys small (level_of_rows tau settled v size ys level) in
      let all : AreAllRows tau settled v (λ n. n ≤ size) (xs ++ ys) =
      rows_within tau settled v size (xs ++ ys) (smaller_all (CanServe 6 tau settled v) (CostsLeast tau settled v) size (xs ++ ys) joined) in
      rw is (subst (λ (k : ℕ). AreAllRows tau settled v (λ n. n ≤ k) (xs ++ ys)) e all, omega arith)
