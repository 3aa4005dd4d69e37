use Rattle.std.specs.Prelude.{◌≢◌, ℕ, ◌<◌, List, map, length, slice_index}
use Rattle.std.specs.List.{flat_map}
use Rattle.request_book.specs.declared.values.vehicle.Vehicle.{Vehicle}

-- the riders aboard some vehicle, vehicle by vehicle
abbrev pub riders_aboard : List Vehicle → List ℕ
riders_aboard vehicles = flat_map (λ v. map (λ p. p.rider) v.aboard.items) vehicles

-- no id stands twice
abbrev pub IsOnce : List ℕ → Type 0
IsOnce ids = (i j : ℕ) → i < j → j < length ids → slice_index ids i ≢ slice_index ids j
