use Rattle.std.specs.Prelude.{◌≡◌, ◌↔◌, ℕ, ◌+◌, List, [], Result, Ok, Err, length, map, take, slice_index_or, nat_lt, Contains, if◌then◌else◌}
use Rattle.std.specs.List.Sorted.{IsStrictlyIncreasing}
use Rattle.pool_base.specs.InOrder.{all_or_first}
use Rattle.request_book.specs.declared.values.vehicle.Vehicle.{Vehicle}
use Rattle.input_rows.specs.declared.fleet.fault.FleetFault.{FleetFault}
use Rattle.input_rows.specs.declared.fleet.fault.FleetFault.TheVariants.{TooManyVehicles}
use Rattle.input_rows.specs.fleet.Vehicle.{vehicle_in}

-- the vehicles of rows, in the order of the rows, or the first refusal
abbrev pub vehicles_of : List ℕ → List (List (List ℕ)) → Result (List Vehicle) FleetFault
vehicles_of nodes records =
    if nat_lt 500 (length records) then Err TooManyVehicles
    else all_or_first (λ place. vehicle_in nodes (take place records) (place + 1) (slice_index_or records place [])) (length records)

-- the fleet that rows give, where these are the nodes: their vehicles by rising id
pub record IsFleetOf (nodes : List ℕ) (records : List (List (List ℕ))) (fleet : List Vehicle) : Type 0 where
  pub vehicles : List Vehicle
  pub read : vehicles_of nodes records ≡ Ok vehicles
  pub rising : IsStrictlyIncreasing (map (λ v. v.id) fleet)
  pub members : (v : Vehicle) → Contains fleet v ↔ Contains vehicles v
