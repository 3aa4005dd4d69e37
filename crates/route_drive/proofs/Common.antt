-- The names that the proofs of this crate cite from elsewhere, passed on from one place. Declares nothing.
pub use Rattle.std.proofs.Math.Seq.{get_or-append_seam}
pub use Rattle.std.proofs.lemmas.Bool.Decides.{nat_tests}
pub use Rattle.std.proofs.lemmas.Bool.{
  MatchBool-at_false,
  MatchBool-at_true,
  and_from,
  and_parts,
  cases_Bool,
  cases_eq,
  cases_lt,
  cond-false,
  cond-true,
  cond_both,
  eq-eqb,
  eqb-true,
  false≢true,
  le-leb,
  le-ltb,
  leb-true,
  lt-leb,
  lt-ltb,
  ltb-false,
  ne_eqb,
  not_from_false,
  not_from_true,
  true≢false,
}
pub use Rattle.std.proofs.lemmas.List.{
  append-nil,
  drop_more,
  flat_map_more,
  get_or-append-add,
  get_or-map,
  get_or-replicate,
  get_or-set_other,
  get_or-set_same,
  get_or_append_left,
  get_or_default,
  get_or_past,
  get_or_read,
  length-map,
  length-replicate,
  length-set,
  length-take,
  map-append,
  map_more,
  map_push,
  reverse-append,
  take_all,
  take_at,
  take_more,
}
pub use Rattle.std.proofs.lemmas.List.Elements.{
  All-append,
  All-cons,
  All-contains,
  All-from_get_or,
  All-from_recursion,
  All-head,
  All-nil,
  All-push,
  All-tail,
  Contains-get_or,
  filter-append,
  filter_more,
  filter_passes,
  recursion_from_All,
}
pub use Rattle.std.proofs.lemmas.List.Filters.{length-filter_both}
pub use Rattle.std.proofs.lemmas.List.Folds.{Any-from_list_any, flat_map-map, sum_by-replicate}
pub use Rattle.std.proofs.lemmas.List.FromFn.{get_or-range_with_len, length-range_with_len}
pub use Rattle.std.proofs.lemmas.List.Sums.{passes_at_first, sum_by-cons, sum_by-set, sum_by_push}
pub use Rattle.std.proofs.lemmas.Map.Keys.{below_from_sorted, sorted_from_strictly_increasing}
pub use Rattle.std.proofs.lemmas.Option.{cond_some, get_or_from_slice_get, gets, slice_get-get_or, slice_get_cases, slice_get_within}
pub use Rattle.std.proofs.lemmas.Simd.{map-map}
pub use Rattle.std.proofs.lemmas.Slice.Zip.{all_zipped_more, length-zip}
unfoldable pub use Rattle.std.specs.List.{IsDistinct}
pub use Rattle.std.specs.List.{All, AllByRecursion, AllZip, Any, filter_map, flat_map, list_any, position, position_or_len, range_with_len, sum_by, zip}
pub use Rattle.std.specs.Option.{option_map_or, option_or}
pub use Rattle.request_book.specs.values.Batch.{Batch}
pub use Rattle.request_book.specs.values.Kept.{IsFleet}
pub use Rattle.request_book.specs.values.Vehicle.{HasSeats, persons_aboard}
pub use Rattle.request_book.specs.declared.values.passenger.Passenger.{Passenger}
pub use Rattle.request_book.specs.declared.values.promise.Promise.{Promise}
pub use Rattle.request_book.specs.declared.values.batch_rider.Rider.{Rider}
pub use Rattle.request_book.specs.declared.values.vehicle.Vehicle.{Vehicle}
pub use Rattle.dispatch_engine.specs.outcome.Outcome.{AnswersWith, HasGraphsWith, IsGoodOutcome, IsGoodPlan}
pub use Rattle.dispatch_engine.specs.outcome.Told.{rider_id, told_stop}
pub use Rattle.dispatch_engine.specs.outcome.Trips.{IsLate, IsTripOf}
pub use Rattle.dispatch_engine.proofs.lemmas.lanes.LaneLemmas.{IsQuiet, plain-quiet}
unfoldable pub use Rattle.dispatch_engine.specs.lanes.Lane.{ClosesAreGood}
pub use Rattle.dispatch_engine.specs.lanes.Lane.{IsCloseOf, IsGoodClose, IsLaneRun, IsLaneRunFrom, of_lane}
pub use Rattle.dispatch_engine.specs.lanes.Run.{IsReady, IsRoundRun, IsRun, IsSameRun, journal_of, position_after_run, state_after_run}
pub use Rattle.dispatch_engine.specs.lemmas.lanes.Lanes.{IsPlain}
pub use Rattle.dispatch_report.specs.declared.day.DayCounts.{DayCounts}
pub use Rattle.plan_rules.proofs.lemmas.GraphLemmas.{in_choice, times_served_as_count, times_served_found, times_served_some}
pub use Rattle.plan_rules.specs.Graph.{IsRowOf, choice_at, must_be_served, riders_at}
pub use Rattle.plan_rules.specs.lemmas.Graph.{is_in}
pub use Rattle.plan_rules.specs.lemmas.Plan.{times_chosen}
pub use Rattle.pool_base.proofs.lemmas.InOrderLemmas.{first_fault-each, first_fault-none, first_fault-some}
pub use Rattle.pool_base.specs.InOrder.{first_fault}
pub use Rattle.pool_base.specs.Times.{travel_time}
pub use Rattle.pool_base.specs.TravelTime.{IsTravelTime, longest, never}
pub use Rattle.pool_base.specs.declared.times.Times.{Times}
pub use Rattle.pool_io.specs.Faults.{one_more}
pub use Rattle.dispatch_engine.proofs.lemmas.limits.Promises.{filter_range_has, promised_trip}
pub use Rattle.dispatch_engine.specs.limits.Promised.{IsLive, promised_limit, promised_to}
pub use Rattle.dispatch_engine.specs.limits.Requests.{IsLegOf, request_at}
pub use Rattle.dispatch_engine.specs.limits.Settling.{IsPlaced, IsSettled}
pub use Rattle.dispatch_engine.specs.lemmas.limits.NamedPromises.{IsHeld, ideal_second, is_promised_to, kept_leg, kept_legs, no_request}
pub use Rattle.request_book.proofs.lemmas.register.BatchLemmas.{after_seal-id}
pub use Rattle.request_book.proofs.lemmas.ConsistentLemmas.{step-consistent}
pub use Rattle.request_book.proofs.lemmas.values.KeyedLemmas.{
  All-look_up,
  KeysDiffer-filter_map,
  KeysDiffer-from_rise,
  KeysDiffer-map,
  by_key-order,
  look_up-at,
  look_up-changed_here,
  look_up-changed_there,
  look_up-filter_map,
  look_up-here,
  look_up-key,
  look_up-map,
  look_up-nil,
  look_up-push_found,
  look_up-push_here,
  look_up-push_there,
  look_up-there,
  map-changed_at,
  without_key-absent,
}
pub use Rattle.request_book.proofs.lemmas.LawLemmas.{reached-consistent, rounds-join}
pub use Rattle.request_book.proofs.lemmas.NamedLemmas.{step-named}
pub use Rattle.request_book.proofs.lemmas.register.StepTable.{by-table}
pub use Rattle.request_book.specs.Book.{BookView, IsBook, next_position, opening}
unfoldable pub use Rattle.request_book.specs.register.Closing.{picks}
unfoldable pub use Rattle.request_book.specs.lemmas.register.Closing.{trip_picks, after_answer, closed_state}
pub use Rattle.request_book.specs.register.Closing.{after_plan}
pub use Rattle.request_book.specs.values.Command.{closed_outcome}
pub use Rattle.request_book.specs.Consistent.{IsNode, seat_in}
unfoldable pub use Rattle.request_book.specs.values.Keyed.{KeysDiffer, changed_at, look_up}
unfoldable pub use Rattle.request_book.specs.lemmas.values.Keyed.{without}
pub use Rattle.request_book.specs.values.Keyed.{KeysRise, by_key}
unfoldable pub use Rattle.request_book.specs.Replay.{RepliesAreSteps, state_after}
pub use Rattle.request_book.specs.values.Rider.{is_active, passenger_of, pool_promise, with_status}
pub use Rattle.request_book.specs.lemmas.register.Named.{shown, asking, in_batch, lets_out, planned_status, stands_at, takes_in}
unfoldable pub use Rattle.request_book.specs.register.Sealing.{batch_of}
unfoldable pub use Rattle.request_book.specs.lemmas.register.Named.{sealed_state}
pub use Rattle.request_book.specs.register.Sealing.{after_seal}
pub use Rattle.request_book.specs.values.State.{find_passenger, find_rider, find_vehicle}
unfoldable pub use Rattle.request_book.specs.register.Step.{step}
pub use Rattle.request_book.specs.register.Step.{rider_becomes, vehicle_becomes}
pub use Rattle.request_book.specs.declared.values.command.Command.{Command}
pub use Rattle.request_book.specs.declared.values.command.Command.TheVariants.{Cancel, Close, Dropoff, Pickup, Report, Seal, Submit}
pub use Rattle.request_book.specs.declared.values.journal.Entry.{Entry}
pub use Rattle.request_book.specs.declared.values.journal.Journal.{Journal}
pub use Rattle.request_book.specs.declared.values.outcome.Answer.{Answer}
pub use Rattle.request_book.specs.declared.values.outcome.ChosenTrip.{ChosenTrip}
pub use Rattle.request_book.specs.declared.values.outcome.MoveLine.{MoveLine}
pub use Rattle.request_book.specs.declared.values.outcome.Outcome.{Outcome}
pub use Rattle.request_book.specs.declared.values.outcome.Planned.{Planned}
pub use Rattle.request_book.specs.declared.values.outcome.PlannedStop.{PlannedStop}
pub use Rattle.request_book.specs.declared.values.reply.BookRefusal.{BookRefusal}
pub use Rattle.request_book.specs.declared.values.reply.Reply.{Reply}
pub use Rattle.request_book.specs.declared.values.reply.Reply.TheVariants.{Accepted, Closed, Dropped, Picked, Placed, Sealed}
pub use Rattle.request_book.specs.declared.values.rider.BookRider.{BookRider}
pub use Rattle.request_book.specs.declared.values.rider.Status.{Status}
pub use Rattle.request_book.specs.declared.values.rider.Status.TheVariants.{Aboard, Delivered, Expired, Promised, Waiting}
pub use Rattle.request_book.specs.declared.values.state.State.{State}
unfoldable pub use Rattle.request_book.specs.lemmas.register.Refusals.{first_of}
pub use Rattle.request_book.specs.lemmas.register.Refusals.{batch_open, clock_back, duplicate_rider}
unfoldable pub use Rattle.request_book.specs.lemmas.register.Table.{
  cancel_step,
  close_step,
  dropoff_step,
  pickup_step,
  report_step,
  seal_step,
  submit_step,
  table_step,
}
pub use Rattle.request_book.specs.lemmas.register.Table.{answer, dropped_off, picked_up, submit_refusal}
pub use Rattle.rider_limits.specs.declared.settings.Settings.{Settings}
pub use Rattle.road_network.specs.Roads.{IsArcAmong, IsNetwork, Roads, has_node, hop_of, index_in, leaving}
pub use Rattle.road_network.specs.Walk.{HasNoWalk, IsLeastTime, IsTimeBetween, IsWalk, walk_seconds}
pub use Rattle.road_network.specs.declared.arc.Arc.{Arc}
pub use Rattle.road_network.specs.declared.hop.Hop.{Hop}
pub use Rattle.route_drive.specs.Counts.{AreCounts, IsDelayOf, dropped_among, entries_of, ideal_dropoff, is_dropped, is_picked, picked_among, wait_of}
pub use Rattle.route_drive.specs.Day.{day_fault, first_seal, is_of_day, is_seal_command, lane_fault, latest_seal, round_fault, seal_of, seals_fault}
pub use Rattle.route_drive.specs.Driven.{
  AreDriven,
  ComesTooLate,
  HasDrivenToTheEnd,
  IsDrivenDay,
  IsDrivenRound,
  IsLateAnswer,
  IsNewBook,
  IsPrecededBy,
  IsTooLateDay,
  courses_after,
  courses_from,
  courses_left,
  first_courses,
  left_course,
  number_after,
  plan_in,
  planned_course,
  planned_in,
}
pub use Rattle.route_drive.specs.Entering.{
  AreEntered,
  EntersTooLate,
  IsEntered,
  IsReported,
  due,
  goal_of,
  left_commands,
  reached_by,
  second_of,
  standing_after,
  stop_command,
  to_come,
}
pub use Rattle.route_drive.specs.Promises.{DaysKeep, EntriesKeep, EntryKeeps, IsClosedInTime, IsDroppedInTime, IsKeptDay, IsPickedBy, IsRunOfDay, StateKeeps}
pub use Rattle.route_drive.specs.Walk.{IsShortestWalk, steps_of}
pub use Rattle.route_drive.specs.declared.counts.ServedRider.{ServedRider}
pub use Rattle.route_drive.specs.declared.course.Course.{Course}
pub use Rattle.route_drive.specs.declared.course.NodeAt.{NodeAt}
pub use Rattle.route_drive.specs.declared.course.Stay.{Stay}
pub use Rattle.route_drive.specs.declared.day_run.DayRound.{DayRound}
pub use Rattle.route_drive.specs.declared.day_run.DriveFault.{DriveFault}
pub use Rattle.route_drive.specs.declared.day_run.DriveFault.TheVariants.{OutOfMemory}
pub use Rattle.route_drive.specs.declared.tree.Found.{Found}
pub use Rattle.route_drive.specs.declared.walk.WalkStep.{WalkStep}
pub use Rattle.route_drive.specs.work.Counting.{AddsServed, AreServed, IsDelayed, all_served_by, waited}
pub use Rattle.route_drive.specs.work.Drive.{
  HasCome,
  HasEnded,
  IsCounted,
  IsInTime,
  IsLastOn,
  IsLateAt,
  IsRoundOn,
  IsStoppedAt,
  IsTaken,
  IsUnderWay,
  Takes,
  at_rest,
  fault_at,
  reported_place,
}
pub use Rattle.route_drive.specs.work.Places.{ArePlaced, heading_of, headings_of, told_by, told_of}
pub use Rattle.route_drive.specs.work.Rounds.{Adds}
pub use Rattle.route_drive.specs.work.Serving.{
  AreReached,
  AreReported,
  HasCalls,
  HasSeatsFor,
  IsBound,
  IsBoundBy,
  IsDayState,
  IsDone,
  IsKept,
  IsOfVehicle,
  IsPromiseKept,
  IsReadyForSeal,
  IsRightDropoff,
  IsRightPickup,
  IsRightStop,
  IsServing,
  KeepsBounds,
  LeavesAll,
  LeavesOthers,
  ShowsRiders,
  calls_of,
  chosen_stops,
  closed,
  course_of,
  is_stop_of,
  party_at,
  seats_after,
  stops_with,
}
pub use Rattle.route_drive.specs.work.Tree.{AreHopsOpened, Grows, IsGrowing, IsOpened, IsTight, IsTree, IsWalkBack, found_at, is_seen, no_found}
pub use Rattle.input_rows.specs.script.Round.{IsRound, MayStand, NumberedLanes, empty_round, lane_at}
pub use Rattle.dispatch_engine.specs.lanes.Locked.{sealed_by}
pub use Rattle.stop_orders.proofs.lemmas.task.ClockLemmas.{AtLeastAsSoon, soon_over, soon_there}
pub use Rattle.stop_orders.specs.task.Order.{IsKnown, IsOrder, is_of_passenger, is_of_rider}
pub use Rattle.stop_orders.specs.task.Settled.{IsTrip, greatest, no_rider, rider_at, trip_task, vehicle_at, vehicle_task}
pub use Rattle.stop_orders.specs.lemmas.task.Named.{free_seats, no_vehicle}
pub use Rattle.stop_orders.specs.task.Task.{IsLeg, IsOrderOf, IsServable, IsTask, Serves, leg_at, no_leg, persons, seconds_of, visit_at, visits_of}
pub use Rattle.stop_orders.specs.task.Visit.{ServesFrom, boarding_of, latest_of, place_of, room_after, seconds_from}
pub use Rattle.stop_orders.specs.declared.task.leg.Leg.{Leg}
pub use Rattle.stop_orders.specs.declared.task.settled.Settled.{Settled}
pub use Rattle.stop_orders.specs.declared.task.stop.Stop.{Stop}
pub use Rattle.stop_orders.specs.declared.task.stop.Stop.TheVariants.{Alight, Drop, Pick}
pub use Rattle.stop_orders.specs.declared.task.task.Task.{Task}
pub use Rattle.stop_orders.specs.declared.task.visit.Visit.{Visit}
pub use Rattle.travel_times.proofs.lemmas.search.WalkLemmas.{IsWalk-append, goal_within, short_walk, walk_seconds-append}
pub use Rattle.travel_times.specs.table.Table.{AreTravelTimes}
