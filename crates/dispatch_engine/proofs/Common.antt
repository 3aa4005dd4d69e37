-- The names that the proofs of this crate cite from elsewhere, passed on from one place. Declares nothing.
pub use Rattle.std.proofs.lemmas.Bool.{both_ways, cases_eq, cases_lt, cond-false, cond-true, eqb-false, false≢true}
pub use Rattle.std.proofs.lemmas.Bool.Decides.{nat_tests}
pub use Rattle.std.proofs.lemmas.List.{drop_all, get_or-map, get_or-replicate, get_or_default, get_or_past, length-map, length-replicate, map-append}
pub use Rattle.std.proofs.lemmas.List.Elements.{All-append, All-cons, All-nil, All-weaker, filter-append}
pub use Rattle.std.proofs.lemmas.Result.{IfOk-weaker, on_err_weaker, on_ok_weaker}
pub use Rattle.std.specs.List.{AllByRecursion, AllZip, enumerate_from}
pub use Rattle.request_book.specs.values.Batch.{Batch}
pub use Rattle.dispatch_engine.specs.outcome.Outcome.{IsGoodOutcome}
unfoldable pub use Rattle.dispatch_engine.specs.lanes.Lane.{ClosesAreGood}
pub use Rattle.dispatch_engine.specs.lanes.Lane.{
  HasGained,
  HasRun,
  IsCloseOf,
  IsGoodClose,
  IsGoodFor,
  IsLaneBeginning,
  IsLaneRun,
  IsLaneRunFrom,
  LaneClosesAreGood,
  last_sealed,
  of_lane,
}
pub use Rattle.dispatch_engine.specs.lanes.Progress.{AreDone, HaveCome, IsNext, IsRest, at_start, progress_after, progress_at}
pub use Rattle.dispatch_engine.specs.lanes.Run.{IsReady, IsRoundRun, IsRun, IsSameRun, journal_of, position_after_run, state_after_run}
pub use Rattle.dispatch_engine.specs.declared.lanes.crew.LaneWork.{LaneWork}
pub use Rattle.dispatch_engine.specs.declared.lanes.lane_progress.LaneProgress.{LaneProgress}
pub use Rattle.dispatch_engine.specs.lemmas.lanes.Lanes.{IsPlain}
pub use Rattle.dispatch_engine.specs.work.lanes.Crew.{AreInOrder, HasRunLane, HasTaken, HasWorked, HaveRunLanes, IsSharedBy, IsToWork, at_rest}
pub use Rattle.dispatch_engine.specs.work.lanes.Lanes.{HaveRun, IsJointRun, calls_of_lane, calls_of_pass}
pub use Rattle.request_book.specs.Book.{BookView, IsBook, IsSameBook, is_light, next_position}
unfoldable pub use Rattle.request_book.specs.Replay.{RepliesAreSteps, state_after}
unfoldable pub use Rattle.request_book.specs.register.Sealing.{batch_of}
unfoldable pub use Rattle.request_book.specs.lemmas.register.Named.{sealed_state}
unfoldable pub use Rattle.request_book.specs.register.Step.{cancel, close, dropoff, pickup, report, seal, step, submit}
pub use Rattle.request_book.specs.declared.values.command.Command.{Command}
pub use Rattle.request_book.specs.declared.values.command.Command.TheVariants.{Close, Seal}
pub use Rattle.request_book.specs.declared.values.journal.Entry.{Entry}
pub use Rattle.request_book.specs.declared.values.journal.Journal.{Journal}
pub use Rattle.request_book.specs.declared.values.reply.Reply.{Reply}
pub use Rattle.request_book.specs.declared.values.reply.Reply.TheVariants.{Accepted, Closed}
pub use Rattle.request_book.specs.declared.values.state.State.{State}
pub use Rattle.rider_limits.specs.declared.settings.Settings.{Settings}
pub use Rattle.road_network.specs.Roads.{Roads}
pub use Rattle.input_rows.specs.script.Round.{IsRound, MayStand, NumberedLanes, lane_at}
pub use Rattle.seat_lock.specs.Values.{AreAllPasses, IsNew, IsPassOf, LockValue, calls_of, entry}
pub use Rattle.seat_lock.specs.declared.logged.LoggedCall.{LoggedCall}
unfoldable pub use Rattle.dispatch_engine.specs.lanes.Locked.{calls_from}
pub use Rattle.dispatch_engine.specs.lanes.Locked.{call_of, entry_of, sealed_by, snapshot_after}
pub use Rattle.dispatch_engine.specs.lanes.Shared.{BookPass, HasCalled, HasCalledSome, IsFinished, IsSamePass, with_snapshot}
pub use Rattle.dispatch_engine.specs.declared.lanes.locked.LockedReply.{LockedReply}
pub use Rattle.std.proofs.lemmas.List.{drop_more, get_or_append_left, get_or_push, get_or_read, length_push, nil_from_length, take_more}
pub use Rattle.std.proofs.lemmas.List.Elements.{
  All-contains,
  All-filter,
  All-from_get_or,
  All-map,
  All-push,
  Contains-append_left,
  Contains-append_right,
  Contains-get_or,
  Contains-push,
  Contains-push_cases,
  filter_passes,
}
pub use Rattle.std.specs.List.{list_any, range_with_len}
pub use Rattle.dispatch_engine.specs.outcome.Instance.{posed_by}
pub use Rattle.dispatch_engine.specs.outcome.Moves.{AreMoves, HasPlaces, idle_vehicles, is_idle, move_line, origins_of, starts_of}
pub use Rattle.dispatch_engine.specs.outcome.Points.{Posed}
pub use Rattle.dispatch_engine.specs.outcome.Told.{rider_id, trip_row_line, told_stop}
pub use Rattle.dispatch_engine.specs.outcome.Trips.{AreLate, AreTrips, IsLate, IsLateOrder, IsTripOf}
pub use Rattle.dispatch_engine.specs.lemmas.outcome.Named.{told_stops, vehicle_id}
pub use Rattle.dispatch_engine.specs.work.outcome.Lists.{AreLists}
pub use Rattle.plan_rules.proofs.lemmas.GraphLemmas.{row_read}
pub use Rattle.plan_rules.specs.Graph.{Graph, IsRowOf, choice_at, cost_at, no_row, riders_at, row_at}
pub use Rattle.plan_rules.specs.lemmas.Graph.{HasNoRow, is_in}
pub use Rattle.plan_rules.specs.declared.row.TripRow.{TripRow}
pub use Rattle.plan_rules.specs.lemmas.Plan.{MarksServed, times_chosen}
pub use Rattle.pool_base.specs.Times.{point_count, travel_time}
pub use Rattle.rebalancing.specs.Matching.{IsBestMatching, IsMatching}
pub use Rattle.request_book.specs.declared.values.outcome.ChosenTrip.{ChosenTrip}
pub use Rattle.request_book.specs.declared.values.outcome.MoveLine.{MoveLine}
pub use Rattle.request_book.specs.declared.values.outcome.PlannedStop.{PlannedStop}
pub use Rattle.stop_orders.proofs.lemmas.task.VisitLemmas.{visit_place}
pub use Rattle.stop_orders.specs.task.Settled.{IsTrip, greatest, no_rider, rider_at, trip_task, vehicle_at, vehicle_task}
pub use Rattle.stop_orders.specs.lemmas.task.Named.{no_vehicle}
pub use Rattle.stop_orders.specs.task.Sound.{IsShort, IsSound, IsSoundVehicle}
pub use Rattle.stop_orders.specs.task.Task.{
  IsLeastDelay,
  IsLeg,
  IsOrderOf,
  IsServable,
  IsTask,
  ReachesAll,
  Serves,
  leg_at,
  no_leg,
  order_delay,
  persons,
  seconds_of,
  visit_at,
  visits_of,
}
pub use Rattle.stop_orders.specs.task.Visit.{place_of, seconds_from}
pub use Rattle.stop_orders.specs.declared.task.settled.Settled.{Settled}
pub use Rattle.stop_orders.specs.declared.task.settled_vehicle.SettledVehicle.{SettledVehicle}
pub use Rattle.stop_orders.specs.declared.task.stop.Stop.{Stop}
pub use Rattle.stop_orders.specs.declared.task.task.Task.{Task}
pub use Rattle.std.proofs.lemmas.Option.{slice_get-get_or, slice_get_within}
pub use Rattle.std.specs.List.Sorted.{IsStrictlyIncreasing}
pub use Rattle.std.specs.Option.{option_map_or}
pub use Rattle.request_book.specs.Points.{ArePoints}
pub use Rattle.request_book.specs.declared.values.passenger.Passenger.{Passenger}
pub use Rattle.request_book.specs.declared.values.promise.Promise.{Promise}
pub use Rattle.request_book.specs.declared.values.batch_rider.Rider.{Rider}
pub use Rattle.request_book.specs.declared.values.vehicle.Vehicle.{Vehicle}
pub use Rattle.dispatch_engine.specs.limits.Promised.{IsLive, promised_limit, promised_to}
pub use Rattle.dispatch_engine.specs.limits.Requests.{IsLegOf, request_at}
pub use Rattle.dispatch_engine.specs.limits.Settling.{HasRightLimit, IsSettled}
pub use Rattle.dispatch_engine.specs.lemmas.limits.NamedPromises.{HoldsPromised, IsHeld, is_promised_to, kept_leg, kept_legs, no_request}
pub use Rattle.dispatch_engine.specs.work.limits.Promised.{AreKept, kept_rider}
pub use Rattle.dispatch_engine.specs.work.limits.Requests.{ArePlain, CanBeKept, IsBetweenPlaces, IsPlainRider}
pub use Rattle.dispatch_engine.specs.work.limits.Settling.{AreSettledVehicles, HasVehiclePlaces, IsSettledVehicle}
pub use Rattle.stop_orders.specs.declared.task.leg.Leg.{Leg}
pub use Rattle.stop_orders.specs.declared.task.settled_rider.SettledRider.{SettledRider}
