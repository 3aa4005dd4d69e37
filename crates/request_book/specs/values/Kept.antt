use Rattle.std.specs.Prelude.{◌≡◌, ◌≢◌, ◌≤◌, List, ◌++◌, map, length, All, AllPairs}
use Rattle.std.specs.List.{flat_map}
use Rattle.std.specs.List.Sorted.{IsStrictlyIncreasing}
use Rattle.request_book.specs.declared.values.vehicle.Vehicle.{Vehicle}
use Rattle.request_book.specs.values.Batch.{Batch}
use Rattle.request_book.specs.values.Vehicle.{HasSeats}

-- what every snapshot keeps
pub record IsKept (b : Batch) : Type 0 where
  pub vehicle_count : length b.vehicles ≤ 500
  pub rider_count : length b.riders ≤ 1000
  -- lists stand by strictly rising id
  pub vehicles_rise : IsStrictlyIncreasing (map (λ v. v.id) b.vehicles)
  pub riders_rise : IsStrictlyIncreasing (map (λ r. r.id) b.riders)
  pub expired_rise : IsStrictlyIncreasing b.expired
  pub seats : All HasSeats b.vehicles
  -- nobody asked after the moment of the snapshot
  pub asked : All (λ r. r.time ≤ b.sealed_at) b.riders
  -- nobody is in two places: among those whose wait ended, in the batch, or aboard of a vehicle
  pub once : AllPairs (λ id other. id ≢ other) (b.expired ++ (map (λ r. r.id) b.riders ++ flat_map (λ v. map (λ p. p.rider) v.aboard.items) b.vehicles))

-- what every fleet keeps
pub record IsFleet (vehicles : List Vehicle) : Type 0 where
  pub count : length vehicles ≤ 500
  pub rise : IsStrictlyIncreasing (map (λ v. v.id) vehicles)
  pub seats : All HasSeats vehicles
  -- nobody is aboard
  pub empty : All (λ v. length v.aboard.items ≡ 0) vehicles
