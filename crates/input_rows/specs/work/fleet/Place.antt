use Rattle.std.specs.Prelude.{◌≡◌, ℕ, ◌<◌, ◌≤◌, Bool, false, List, length, nat_lt, ◌==◌, ◌&&◌, slice_index_or}
use Rattle.std.specs.List.{AllWithin, list_any, prefix_len}
use Rattle.request_book.specs.declared.values.vehicle.Vehicle.{Vehicle}
use Rattle.input_rows.specs.lemmas.fleet.NamedFleet.{empty_vehicle}

-- some vehicle has this id
abbrev pub has_vehicle : List Vehicle → ℕ → Bool
has_vehicle vehicles id = list_any (λ v. v.id == id) vehicles

-- the vehicle at a place has this id
abbrev pub has_id_at : List Vehicle → ℕ → ℕ → Bool
has_id_at vehicles place id = nat_lt place (length vehicles) && (slice_index_or vehicles place (empty_vehicle 0 0 0 0)).id == id

-- how many vehicles at the front have lower ids
abbrev pub insertion_place : List Vehicle → ℕ → ℕ
insertion_place vehicles id = prefix_len (λ v. nat_lt v.id id) vehicles

-- a new id's place among vehicles by rising id: behind all lower ids, and before all higher ones
pub record IsPlaceOf (vehicles : List Vehicle) (id place : ℕ) : Type 0 where
  pub new : has_vehicle vehicles id ≡ false
  pub place_is : place ≡ insertion_place vehicles id
  pub inside : place ≤ length vehicles
  pub lower : AllWithin (λ v. v.id < id) vehicles 0 place
  pub higher : AllWithin (λ v. id < v.id) vehicles place (length vehicles)
