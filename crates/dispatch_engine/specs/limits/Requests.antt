use Rattle.std.specs.Prelude.{◌≡◌, ℕ, ◌+◌, List, nat_lt, Some, None, if◌then◌else◌, slice_get, slice_index_or}
use Rattle.pool_base.specs.TravelTime.{never}
use Rattle.request_book.specs.declared.values.batch_rider.Rider.{Rider}
use Rattle.stop_orders.specs.declared.task.leg.Leg.{Leg}
use Rattle.rider_limits.specs.declared.settings.Settings.{Settings}

-- the request of a number; where there is none, one rider at second 0 from node 0 to node 0
abbrev pub request_at : List Rider → ℕ → Rider
request_at requests r = slice_index_or requests r (record { id = 0; origin = 0; destination = 0; time = 0; party = 1; promise = None })

-- the leg of a request: its nodes' places, and the limits that follow from its second; ideal is to leave at that second and to
-- drive without a stop
pub record IsLegOf (settings : Settings) (points : List ℕ) (tau : ℕ → ℕ → ℕ) (origin destination time party : ℕ) (leg : Leg) : Type 0 where
  pub origin_place : slice_get points leg.origin ≡ Some origin
  pub destination_place : slice_get points leg.destination ≡ Some destination
  pub latest_pickup : leg.latest_pickup ≡ time + settings.wait
  pub ideal : leg.ideal ≡ (if nat_lt (tau leg.origin leg.destination) never then time + tau leg.origin leg.destination else time)
  pub latest_dropoff : leg.latest_dropoff ≡ leg.ideal + settings.delay
  pub size : leg.party ≡ party
