-- The names that the proofs of this crate cite from elsewhere, passed on from one place. Declares nothing.
pub use Rattle.std.proofs.lemmas.Bool.{both_ways, cases_Bool, cases_eq, cases_lt, cond-false, cond-true, false≢true, not_from_false, not_from_true}
pub use Rattle.std.proofs.lemmas.List.{drop-map, drop_more, get_or-map, get_or_default, length-map, map-append, nil_from_length, take-map}
pub use Rattle.std.proofs.lemmas.List.Edits.{get_or-remove_above, get_or-remove_below, length-remove}
pub use Rattle.std.proofs.lemmas.List.Elements.{
  All-append,
  All-cons,
  All-contains,
  All-drop,
  All-from_recursion,
  All-map,
  All-more,
  All-push,
  All-take,
  All-weaker,
  Contains-append_right,
}
pub use Rattle.std.proofs.lemmas.Nat.Bits.{bit_at-lt, bit_at-pow_other, bit_at-pow_same, bit_at-zero, bit_at_or, shr_and_one}
pub use Rattle.std.specs.List.{AllByRecursion}
pub use Rattle.std.proofs.lemmas.List.Sorted.{All-permutation, Contains-permutation, IsPermutation-insert, IsPermutation-map, length_permutation}
pub use Rattle.pool_base.specs.Times.{point_count, travel_time}
pub use Rattle.pool_base.specs.TravelTime.{IsTravelTime, longest, never}
unfoldable pub use Rattle.stop_orders.specs.task.Done.{has, with_bit}
pub use Rattle.stop_orders.specs.task.Done.{IsAllDone, IsNextStop, bit_of, with_stop}
pub use Rattle.stop_orders.specs.Laws.{
  StillServes,
  number_without,
  stop_without_passenger,
  stop_without_rider,
  stops_without_passenger,
  stops_without_rider,
  without_passenger,
  without_rider,
}
pub use Rattle.stop_orders.specs.task.Order.{IsKnown, IsOrder, is_of_passenger, is_of_rider}
pub use Rattle.stop_orders.specs.PairList.{ArePairs, IsBefore}
pub use Rattle.stop_orders.specs.task.Settled.{IsRrEdge, IsTrip, greatest, no_rider, pair_task, rider_at, trip_task, vehicle_at}
pub use Rattle.stop_orders.specs.lemmas.task.Named.{free_seats, no_vehicle}
pub use Rattle.stop_orders.specs.task.Task.{
  IsLeastDelay,
  IsLeg,
  IsOrderOf,
  IsServable,
  IsTask,
  ReachesAll,
  Serves,
  leg_at,
  no_leg,
  order_delay,
  persons,
  seconds_of,
  visit_at,
  visits_of,
}
pub use Rattle.stop_orders.specs.task.Visit.{Reaches, ServesFrom, boarding_of, delay_from, lateness, latest_of, place_of, room_after, seconds_from}
pub use Rattle.stop_orders.specs.declared.task.route.Route.{Route}
pub use Rattle.stop_orders.specs.declared.task.stop.Stop.{Stop}
pub use Rattle.stop_orders.specs.declared.task.stop.Stop.TheVariants.{Alight, Drop, Pick}
pub use Rattle.stop_orders.specs.declared.task.task.Task.{Task}
pub use Rattle.stop_orders.specs.declared.task.visit.Visit.{Visit}
pub use Rattle.stop_orders.specs.declared.task.visit.Visit.TheVariants.{Dropoff, Pickup}
pub use Rattle.stop_orders.specs.lemmas.search.Plain.{IsFound, MakesOrders, NoneBetter, StaysGood}
unfoldable pub use Rattle.stop_orders.specs.lemmas.task.Rest.{left_count}
pub use Rattle.stop_orders.specs.lemmas.task.Rest.{Completes, left_of_passenger, left_of_rider, sum_below}
pub use Rattle.stop_orders.specs.work.search.Plain.{AllTried}
pub use Rattle.stop_orders.specs.work.search.Position.{CanVisitFrom, ServesAt, first_position, position_after}
pub use Rattle.stop_orders.specs.work.task.Rest.{stop_with}
pub use Rattle.stop_orders.specs.declared.search.candidate.Candidate.{Candidate}
pub use Rattle.stop_orders.specs.declared.search.label.Label.{Label}
pub use Rattle.stop_orders.specs.work.search.Ahead.{CanStill, PassengerCan, RiderCan, late_at_once, least_ahead, passenger_late, rider_late}
pub use Rattle.stop_orders.specs.work.search.Cost.{IsCostFound, IsNextOf, IsPersonTried, Priced, route_of}
pub use Rattle.stop_orders.specs.work.search.LabelStore.{IsDominated, IsLabelPlaced, labels_of, no_label}
pub use Rattle.stop_orders.specs.work.search.Label.{
  CanVisit,
  GoesOn,
  IsRoutable,
  IsRoutableLeg,
  IsSmallLabel,
  first_label,
  label_at,
  next_label,
  rest_delay,
  second_at,
  task_passengers,
  task_riders,
}
pub use Rattle.stop_orders.specs.work.search.Search.{AreCandidates, IsCandidate, IsExhausted, IsLabelDone, IsOnlyStop, IsTried, LeadsTo, Searched, person_of}
pub use Rattle.stop_orders.specs.work.search.Unlimited.{without_latest, without_limits}
pub use Rattle.stop_orders.specs.declared.task.leg.Leg.{Leg}
