-- The rows of a level, as what the public contracts say of them.
use Rattle.std.proofs.Common.{◌≡◌, ℕ, ◌≤◌, List, [], length, subst, arith, rules}
use Rattle.trip_graph.proofs.Common.{
  nil_from_length,
  Settled,
  trip_task,
  IsServable,
  CanServe,
  trips_of,
  IsRising,
  AreSomeRows,
  AreAllRows,
  AreRowsOfSize,
  HasMoreThan,
  IsLevelRow,
  IsLevel,
  IsBelow,
  AreRowsWithin,
  HasMoreOfLevel,
  HasMoreWithin,
  CostsLeast,
  TripOf,
}
use Rattle.std.specs.List.{All}

module _ (tau : ℕ → ℕ → ℕ) (settled : Settled) (v : ℕ) where
  pub some_rows : (IsWanted : ℕ → Type 0) (rows : List TripOf) → All (IsLevelRow (CanServe 6 tau settled v) (CostsLeast tau settled v)) rows
      → All (λ row. IsWanted (length row.riders.items)) rows → IsRising (trips_of rows) → AreSomeRows tau settled v IsWanted rows
  some_rows IsWanted rows right sized rising = search rules

  pub rows_of_level : (size : ℕ) (rows : List TripOf) → IsLevel (CanServe 6 tau settled v) (CostsLeast tau settled v) size rows →
      AreRowsOfSize tau settled v size rows
  rows_of_level size rows level = search rules

  pub level_of_rows : (size : ℕ) (rows : List TripOf) → AreRowsOfSize tau settled v size rows →
      IsLevel (CanServe 6 tau settled v) (CostsLeast tau settled v) size rows
  level_of_rows size rows all = search rules

  -- there is no row without riders where no order serves the passengers
  pub no_rows : (IsServable tau (trip_task settled v []) → ⊥) → AreRowsOfSize tau settled v 0 []
  no_rows none = record {
    some = record { right = λ k d h. absurd (omega arith); sized = λ k d h. absurd (omega arith); rising = λ i j h k. absurd (omega arith) };
    whole = λ trip is s. absurd (none (subst (λ (t : List ℕ). IsServable tau (trip_task settled v t)) (nil_from_length trip is) s.servable));
  }

  -- the rows below, as growth uses them
  pub below_of_rows : (size : ℕ) (rows : List TripOf) → AreRowsOfSize tau settled v size rows → IsBelow (CanServe 6 tau settled v) size rows
  below_of_rows size rows all = search rules

  pub rows_within : (most : ℕ) (rows : List TripOf) → AreRowsWithin (CanServe 6 tau settled v) (CostsLeast tau settled v) most rows →
      AreAllRows tau settled v (λ n. n ≤ most) rows
  rows_within most rows all = search rules

  pub more_of_level : (size room : ℕ) → HasMoreOfLevel (CanServe 6 tau settled v) (CostsLeast tau settled v) size room →
      HasMoreThan tau settled v (λ n. n ≡ size) room
  more_of_level size room more = search rules

  pub level_of_more : (size room : ℕ) → HasMoreThan tau settled v (λ n. n ≡ size) room → HasMoreOfLevel (CanServe 6 tau settled v) (CostsLeast tau settled v)
      size room
  level_of_more size room more = search rules

  pub more_within : (most room : ℕ) → HasMoreWithin (CanServe 6 tau settled v) (CostsLeast tau settled v) most room →
      HasMoreThan tau settled v (λ n. n ≤ most) room
  more_within most room more = search rules
