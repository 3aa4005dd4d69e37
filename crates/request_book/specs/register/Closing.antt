use Rattle.std.specs.Prelude.{ℕ, ◌&&◌, List, Some, None, option_map, unwrap_or, is_some, if◌then◌else◌}
use Rattle.std.specs.List.{flat_map, filter_map}
use Rattle.request_book.specs.declared.values.promise.Promise.{Promise}
use Rattle.request_book.specs.declared.values.batch_rider.Rider.{Rider}
use Rattle.request_book.specs.declared.values.outcome.ChosenTrip.{ChosenTrip}
use Rattle.request_book.specs.declared.values.rider.BookRider.{BookRider}
use Rattle.request_book.specs.declared.values.rider.Status.TheVariants.{Waiting, Promised}
use Rattle.request_book.specs.values.Keyed.{look_up}
use Rattle.request_book.specs.values.Rider.{is_active, with_status}

-- a pick stop: whom it picks, and what it promises
pub record Pick : Type 0 where
  pub rider : ℕ
  pub promise : Promise

-- the pick stops of the chosen trips, in their order
unfoldable pub picks : List ChosenTrip → List Pick
picks chosen = flat_map (λ trip. filter_map (λ stop.
    if stop.pick then Some (record { rider = stop.rider; promise = record { vehicle = trip.vehicle; pickup = stop.second } }) else None) trip.stops.items) chosen

-- the rider after a plan: who is in the snapshot and still in the pool is promised what the first of the rider's pick
-- stops says, and without one waits
abbrev pub after_plan : List Rider → List Pick → BookRider → BookRider
after_plan riders ps r =
    if is_active r.status && is_some (look_up (λ shown. shown.id) r.id riders)
    then with_status (unwrap_or (option_map (λ p. Promised p.promise) (look_up (λ p. p.rider) r.id ps)) Waiting) r
    else r
