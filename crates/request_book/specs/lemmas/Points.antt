use Rattle.std.specs.Prelude.{ℕ, List, [], ◌∷◌}
use Rattle.std.specs.List.{flat_map}
use Rattle.request_book.specs.declared.values.batch_rider.Rider.{Rider}
use Rattle.request_book.specs.declared.values.vehicle.Vehicle.{Vehicle}

-- the nodes that a vehicle and its passengers name
abbrev pub vehicle_nodes : Vehicle → List ℕ
vehicle_nodes v = v.node ∷ flat_map (λ p. p.origin ∷ p.destination ∷ []) v.aboard.items

-- the nodes that a rider names
abbrev pub rider_nodes : Rider → List ℕ
rider_nodes r = r.origin ∷ r.destination ∷ []
