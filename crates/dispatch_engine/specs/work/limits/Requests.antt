use Rattle.std.specs.Prelude.{◌≡◌, ℕ, ◌+◌, List, Some, slice_get, slice_index_or, is_some, Contains, length}
use Rattle.request_book.specs.declared.values.batch_rider.Rider.{Rider}
use Rattle.stop_orders.specs.declared.task.leg.Leg.{Leg}
use Rattle.stop_orders.specs.declared.task.settled_rider.SettledRider.{SettledRider}
use Rattle.stop_orders.specs.task.Task.{IsLeg}
use Rattle.stop_orders.specs.task.Settled.{no_rider}
use Rattle.stop_orders.specs.task.Sound.{IsShort}
use Rattle.rider_limits.specs.declared.settings.Settings.{Settings}
use Rattle.dispatch_engine.specs.limits.Requests.{IsLegOf}

-- a rider of the batch before promises are looked at: the wait alone counts
pub record IsPlainRider (settings : Settings) (points : List ℕ) (tau : ℕ → ℕ → ℕ) (x : Rider) (y : SettledRider) : Type 0 where
  pub id : y.id ≡ x.id
  pub leg : IsLegOf settings points tau x.origin x.destination x.time x.party y.leg
  pub lapsed : y.lapsed ≡ is_some x.promise
  pub valid : IsLeg (length points) y.leg
  pub short : IsShort y.leg

-- the riders of the batch before promises are looked at
pub record ArePlain (settings : Settings) (points : List ℕ) (tau : ℕ → ℕ → ℕ) (requests : List Rider) (riders : List SettledRider) : Type 0 where
  pub count : length riders ≡ length requests
  pub each : (k : ℕ) (x : Rider) → slice_get requests k ≡ Some x → IsPlainRider settings points tau x (slice_index_or riders k no_rider)

-- the places of a request
pub record IsBetweenPlaces (points : List ℕ) (origin destination : ℕ) : Type 0 where
  pub origin_named : Contains points origin
  pub destination_named : Contains points destination

-- the leg is valid, and its latest pickup is that of the wait alone
pub record CanBeKept (points wait : ℕ) (request : Rider) (leg : Leg) : Type 0 where
  pub valid : IsLeg points leg
  pub latest : leg.latest_pickup ≡ request.time + wait
