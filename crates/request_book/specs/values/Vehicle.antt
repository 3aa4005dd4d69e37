use Rattle.std.specs.Prelude.{ℕ, ◌≤◌}
use Rattle.std.specs.List.{sum_by}
use Rattle.request_book.specs.declared.values.vehicle.Vehicle.{Vehicle}

-- how many persons are aboard
abbrev pub persons_aboard : Vehicle → ℕ
persons_aboard v = sum_by (λ p. p.party) v.aboard.items

-- a vehicle has 1 to 10 seats, and a seat for each person aboard
pub record HasSeats (v : Vehicle) : Type 0 where
  pub some : 1 ≤ v.seats
  pub most : v.seats ≤ 10
  pub enough : persons_aboard v ≤ v.seats
