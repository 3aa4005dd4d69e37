use Rattle.std.specs.Prelude.{ℕ, Bool, Option, None, Some, is_some}
use Rattle.request_book.specs.declared.values.passenger.Passenger.{Passenger}
use Rattle.request_book.specs.declared.values.promise.Promise.{Promise}
use Rattle.request_book.specs.declared.values.rider.Status.{Status}
use Rattle.request_book.specs.declared.values.rider.Status.TheVariants.{Waiting, Promised, Aboard}
use Rattle.request_book.specs.declared.values.rider.BookRider.{BookRider}

-- what a rider in the pool was promised: nothing yet, or a pickup
abbrev pub pool_promise : Status → Option (Option Promise)
pool_promise Waiting = Some None
pool_promise (Promised p) = Some (Some p)
pool_promise _ = None

-- the rider is in the pool: waiting, or promised to a vehicle
abbrev pub is_active : Status → Bool
is_active status = is_some (pool_promise status)

-- the vehicle that the rider is aboard of
abbrev pub vehicle_of : Status → Option ℕ
vehicle_of (Aboard v) = Some v
vehicle_of _ = None

-- the rider with another status
abbrev pub with_status : Status → BookRider → BookRider
with_status status r = record r { status = status }

-- the rider as a passenger
abbrev pub passenger_of : BookRider → Passenger
passenger_of r = record { rider = r.id; origin = r.origin; destination = r.destination; time = r.time; party = r.party }
