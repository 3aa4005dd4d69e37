use Rattle.std.specs.Prelude.{◌≡◌, ℕ, ◌<◌, ◌≤◌, List, [], ◌∷◌, ◌++◌, length, All, Contains, slice_index, remove}
use Rattle.trip_graph.specs.vehicle.Trip.{trips_of, IsLower, IsRising}
use Rattle.trip_graph.specs.declared.vehicle.trip_of.TripOf.{TripOf}

-- the row's trip can be served, and its cost is right
pub record IsLevelRow (Serves : List ℕ → Type 0) (Costs : List ℕ → ℕ → Type 0) (row : TripOf) : Type 0 where
  pub served : Serves row.riders.items
  pub least : Costs row.riders.items row.cost

-- the rows are those of this size, in order, each once
pub record IsLevel (Serves : List ℕ → Type 0) (Costs : List ℕ → ℕ → Type 0) (size : ℕ) (rows : List TripOf) : Type 0 where
  pub right : All (IsLevelRow Serves Costs) rows
  pub sized : All (λ row. length row.riders.items ≡ size) rows
  pub rising : IsRising (trips_of rows)
  pub whole : (trip : List ℕ) → length trip ≡ size → Serves trip → Contains (trips_of rows) trip

-- the rows are those of this size that are lower than the limit, in order, each once
pub record IsLevelUpTo (Serves : List ℕ → Type 0) (Costs : List ℕ → ℕ → Type 0) (size : ℕ) (limit : List ℕ) (rows : List TripOf) : Type 0 where
  pub right : All (IsLevelRow Serves Costs) rows
  pub sized : All (λ row. length row.riders.items ≡ size) rows
  pub lower : All (λ row. IsLower row.riders.items limit) rows
  pub rising : IsRising (trips_of rows)
  pub whole : (trip : List ℕ) → length trip ≡ size → Serves trip → IsLower trip limit → Contains (trips_of rows) trip

-- the rows are those of at most this size, in order, each once
pub record AreRowsWithin (Serves : List ℕ → Type 0) (Costs : List ℕ → ℕ → Type 0) (most : ℕ) (rows : List TripOf) : Type 0 where
  pub right : All (IsLevelRow Serves Costs) rows
  pub sized : All (λ row. length row.riders.items ≤ most) rows
  pub rising : IsRising (trips_of rows)
  pub whole : (trip : List ℕ) → length trip ≤ most → Serves trip → Contains (trips_of rows) trip

-- there are more rows of this size than so many
pub record HasMoreOfLevel (Serves : List ℕ → Type 0) (Costs : List ℕ → ℕ → Type 0) (size : ℕ) (room : ℕ) : Type 0 where
  pub rows : List TripOf
  pub right : All (IsLevelRow Serves Costs) rows
  pub sized : All (λ row. length row.riders.items ≡ size) rows
  pub rising : IsRising (trips_of rows)
  pub more : room < length rows

-- there are more rows of at most this size than so many
pub record HasMoreWithin (Serves : List ℕ → Type 0) (Costs : List ℕ → ℕ → Type 0) (most : ℕ) (room : ℕ) : Type 0 where
  pub rows : List TripOf
  pub right : All (IsLevelRow Serves Costs) rows
  pub sized : All (λ row. length row.riders.items ≤ most) rows
  pub rising : IsRising (trips_of rows)
  pub more : room < length rows

-- the riders of a trip that can be served rise, and stand below a number; and the trip can still be served when
-- one of them is left out
pub record IsTripRule (riders : ℕ) (Serves : List ℕ → Type 0) : Type 0 where
  pub within : (trip : List ℕ) → Serves trip → (k : ℕ) → k < length trip → slice_index trip k < riders
  pub rising : (front : List ℕ) (a b : ℕ) → Serves ((front ++ a ∷ []) ++ b ∷ []) → a < b
  pub without : (trip : List ℕ) (k : ℕ) → Serves trip → k < length trip → Serves (remove trip k)

-- the rows of the size below, in order, each once
pub record IsBelow (Serves : List ℕ → Type 0) (size : ℕ) (rows : List TripOf) : Type 0 where
  pub served : All (λ row. Serves row.riders.items) rows
  pub sized : All (λ row. length row.riders.items ≡ size) rows
  pub rising : IsRising (trips_of rows)
  pub whole : (trip : List ℕ) → length trip ≡ size → Serves trip → Contains (trips_of rows) trip
