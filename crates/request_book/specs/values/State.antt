use Rattle.std.specs.Prelude.{ℕ, List, Option}
use Rattle.request_book.specs.declared.values.passenger.Passenger.{Passenger}
use Rattle.request_book.specs.declared.values.vehicle.Vehicle.{Vehicle}
use Rattle.request_book.specs.declared.values.rider.BookRider.{BookRider}
use Rattle.request_book.specs.values.Keyed.{look_up}

-- the rider of this id
abbrev pub find_rider : ℕ → List BookRider → Option BookRider
find_rider = look_up (λ r. r.id)

-- the vehicle of this id
abbrev pub find_vehicle : ℕ → List Vehicle → Option Vehicle
find_vehicle = look_up (λ v. v.id)

-- the passenger of this id
abbrev pub find_passenger : ℕ → List Passenger → Option Passenger
find_passenger = look_up (λ p. p.rider)
