use Rattle.std.specs.Prelude.{ℕ, List}
use Rattle.request_book.specs.declared.values.batch_rider.Rider.{Rider}
use Rattle.request_book.specs.declared.values.vehicle.Vehicle.{Vehicle}

-- what a snapshot tells
pub record Batch : Type 0 where
  -- the number of the batch, from 1
  pub number : ℕ
  -- the second at which it was sealed
  pub sealed_at : ℕ
  -- all vehicles, by rising id
  pub vehicles : List Vehicle
  -- who waits or has a promise, by rising id
  pub riders : List Rider
  -- whose wait ended with this seal, by rising id
  pub expired : List ℕ
