use Rattle.std.specs.Prelude.{◌≡◌, ℕ, ◌+◌, ◌*◌, ◌<◌, ◌≤◌, List, All, Contains, length}
use Rattle.stop_orders.specs.declared.task.settled.Settled.{Settled}
use Rattle.stop_orders.specs.task.Settled.{CanServe, IsRow}
use Rattle.trip_graph.specs.vehicle.Trip.{IsRising, trips_of}
use Rattle.trip_graph.specs.declared.vehicle.trip_of.TripOf.{TripOf}
use Rattle.trip_graph.specs.declared.vehicle.level.Level.{Level}
use Rattle.trip_graph.specs.declared.vehicle.level.Level.TheVariants.{All as AllOfSize, TooMany as TooManyOfSize}
use Rattle.trip_graph.specs.declared.vehicle.grown.Grown.{Grown}
use Rattle.trip_graph.specs.declared.vehicle.grown.Grown.TheVariants.{All as AllRows, TooMany as TooManyRows}

module _ (tau : ℕ → ℕ → ℕ) (settled : Settled) (vehicle : ℕ) (IsWanted : ℕ → Type 0) where
  -- some rows of the vehicle, each with a wanted number of riders, by size, then riders, so that none stands twice
  pub record AreSomeRows (rows : List TripOf) : Type 0 where
    pub right : All (λ row. IsRow 6 tau settled vehicle row.riders.items row.cost) rows
    pub sized : All (λ row. IsWanted (length row.riders.items)) rows
    pub rising : IsRising (trips_of rows)

  -- all rows of the vehicle with a wanted number of riders
  pub record AreAllRows (rows : List TripOf) : Type 0 where
    pub some : AreSomeRows rows
    pub whole : (trip : List ℕ) → IsWanted (length trip) → CanServe 6 tau settled vehicle trip → Contains (trips_of rows) trip

  -- there are more such rows than so many
  pub record HasMoreThan (room : ℕ) : Type 0 where
    pub rows : List TripOf
    pub some : AreSomeRows rows
    pub more : room < length rows

-- all rows of this size
abbrev pub AreRowsOfSize : (ℕ → ℕ → ℕ) → Settled → ℕ → ℕ → List TripOf → Type 0
AreRowsOfSize tau settled vehicle size rows = AreAllRows tau settled vehicle (λ n. n ≡ size) rows

-- either the rows of the size, of which there are no more than there is room for, or there are more
abbrev pub IsLevelOf : (ℕ → ℕ → ℕ) → Settled → ℕ → ℕ → ℕ → Level → Type 0
IsLevelOf tau settled vehicle size room (AllOfSize rows) = AreRowsOfSize tau settled vehicle size rows × (length rows ≤ room)
IsLevelOf tau settled vehicle size room TooManyOfSize = HasMoreThan tau settled vehicle (λ n. n ≡ size) room

-- either the rows of at most this size, of which there are no more than there is room for, or there are more
abbrev pub IsGrownOf : (ℕ → ℕ → ℕ) → Settled → ℕ → ℕ → ℕ → Grown → Type 0
IsGrownOf tau settled vehicle most room (AllRows rows) = AreAllRows tau settled vehicle (λ n. n ≤ most) rows × (length rows ≤ room)
IsGrownOf tau settled vehicle most room TooManyRows = HasMoreThan tau settled vehicle (λ n. n ≤ most) room

-- the searches between two counts are at most (riders + 1) for each of some different rows, of which there are at
-- most one more than there is room for, and one
pub record TakesSteps (tau : ℕ → ℕ → ℕ) (settled : Settled) (vehicle most room before after : ℕ) : Type 0 where
  pub rows : List TripOf
  pub some : AreSomeRows tau settled vehicle (λ n. n ≤ most) rows
  pub few : length rows ≤ room + 1
  pub taken : after ≤ before + (length rows * (length settled.riders + 1) + 1)
