-- The names that the proofs of this crate cite from elsewhere, passed on from one place. Declares nothing.
pub use Rattle.std.proofs.lemmas.Bool.{cases_eq, cases_lt, cond-false, cond-true, cond_both, eqb-false, false≢true}
pub use Rattle.std.proofs.lemmas.Bool.Decides.{nat_tests}
pub use Rattle.std.proofs.lemmas.List.{at_drop_more, drop_all, length-map, map-append, take_more}
pub use Rattle.std.proofs.lemmas.List.Elements.{All-append, All-cons, All-get_or, All-head, All-map, All-nil, All-push, All-tail, All-weaker, filter_map-append}
pub use Rattle.std.proofs.lemmas.List.Quantifiers.{position-Some}
pub use Rattle.std.proofs.lemmas.List.Sorted.{answers_always, searchable_from_sorted, searched}
pub use Rattle.std.proofs.lemmas.List.Sums.{sum_by-cons, sum_by_push}
pub use Rattle.std.specs.List.{cons_option, list_any}
pub use Rattle.std.specs.List.Sorted.{IsBinarySearchResult, IsSearchInRange, IsStrictlyIncreasing}
pub use Rattle.request_book.specs.values.Batch.{Batch}
pub use Rattle.request_book.specs.values.Kept.{IsFleet, IsKept}
pub use Rattle.request_book.specs.lemmas.values.Kept.{riders_aboard}
pub use Rattle.request_book.specs.values.Vehicle.{HasSeats, persons_aboard}
pub use Rattle.request_book.specs.declared.values.passenger.Passenger.{Passenger}
pub use Rattle.request_book.specs.declared.values.batch_rider.Rider.{Rider}
pub use Rattle.request_book.specs.declared.values.vehicle.Vehicle.{Vehicle}
pub use Rattle.pool_base.specs.declared.memory.OutOfMemory.{OutOfMemory}
pub use Rattle.pool_io.specs.Faults.{one_more}
pub use Rattle.request_book.specs.Book.{BookView, IsBook, next_position, opening, would_seal}
unfoldable pub use Rattle.request_book.specs.register.Closing.{picks}
pub use Rattle.request_book.specs.register.Closing.{Pick, after_plan}
unfoldable pub use Rattle.request_book.specs.lemmas.register.Closing.{after_answer, closed_state, trip_picks}
pub use Rattle.request_book.specs.Consistent.{AreConsistent, IsConsistent, IsNode, IsPassenger, NamesNodes, seat_in, status_in}
unfoldable pub use Rattle.request_book.specs.values.Keyed.{AllAbove, KeysDiffer, KeysRise, by_key, changed_at, look_up, placed}
unfoldable pub use Rattle.request_book.specs.lemmas.values.Keyed.{without}
unfoldable pub use Rattle.request_book.specs.Replay.{RepliesAreSteps, state_after}
pub use Rattle.request_book.specs.values.Rider.{is_active, passenger_of, vehicle_of, with_status}
unfoldable pub use Rattle.request_book.specs.lemmas.register.Named.{sealed_state}
pub use Rattle.request_book.specs.lemmas.register.Named.{asking, in_batch, lets_out, planned_status, pool_count, stands_at, takes_in}
unfoldable pub use Rattle.request_book.specs.register.Sealing.{batch_of}
pub use Rattle.request_book.specs.register.Sealing.{after_seal, is_over}
pub use Rattle.request_book.specs.values.State.{find_passenger, find_rider, find_vehicle}
unfoldable pub use Rattle.request_book.specs.register.Step.{cancel, close, dropoff, pickup, report, seal, step, submit}
pub use Rattle.request_book.specs.register.Step.{answered, rider_becomes, vehicle_becomes}
pub use Rattle.request_book.specs.declared.values.command.Command.{Command}
pub use Rattle.request_book.specs.declared.values.command.Command.TheVariants.{Cancel, Close, Dropoff, Pickup, Report, Seal, Submit}
pub use Rattle.request_book.specs.declared.values.journal.Entry.{Entry}
pub use Rattle.request_book.specs.declared.values.outcome.Answer.{Answer}
pub use Rattle.request_book.specs.declared.values.outcome.Answer.TheVariants.{Overflow, Planned}
pub use Rattle.request_book.specs.declared.values.outcome.ChosenTrip.{ChosenTrip}
pub use Rattle.request_book.specs.declared.values.outcome.PlannedStop.{PlannedStop}
pub use Rattle.request_book.specs.declared.register.Register.{Register}
pub use Rattle.request_book.specs.declared.values.reply.BookRefusal.{BookRefusal}
pub use Rattle.request_book.specs.declared.values.reply.BookRefusal.TheVariants.{BookFull, PoolFull, UnknownRider, UnknownVehicle}
pub use Rattle.request_book.specs.declared.values.reply.Reply.{Reply}
pub use Rattle.request_book.specs.declared.values.reply.Reply.TheVariants.{Accepted, Cancelled, Closed, Dropped, Picked, Placed, Refused, Sealed}
pub use Rattle.request_book.specs.declared.values.rider.BookRider.{BookRider}
pub use Rattle.request_book.specs.declared.values.rider.Status.{Status}
pub use Rattle.request_book.specs.declared.values.rider.Status.TheVariants.{Aboard, Delivered, Expired, Promised, Waiting}
pub use Rattle.request_book.specs.declared.values.state.State.{State}
unfoldable pub use Rattle.request_book.specs.lemmas.register.Refusals.{first_of}
pub use Rattle.request_book.specs.lemmas.register.Refusals.{
  aboard_refusal,
  book_full,
  duplicate_rider,
  ended_refusal,
  has_ended,
  is_aboard,
  not_aboard,
  not_promised,
  not_this_batch,
  pool_full,
  promise_refusal,
  same_place,
  seat_refusal,
  time_back,
  unknown_node,
  unknown_rider,
  unknown_vehicle,
  vehicle_full,
}
unfoldable pub use Rattle.request_book.specs.lemmas.register.Table.{
  cancel_step,
  close_step,
  dropoff_step,
  pickup_step,
  report_step,
  seal_step,
  submit_step,
  table_step,
}
pub use Rattle.request_book.specs.lemmas.register.Table.{answer, batch_unless, dropped_off, picked_up, seal_refusal, submit_refusal}
unfoldable pub use Rattle.request_book.specs.work.register.Closing.{promised_in_turn}
pub use Rattle.request_book.specs.work.register.Closing.{is_waiting, takes_promise, waits_again}
unfoldable pub use Rattle.request_book.specs.work.values.Keyed.{changed_in_turn}
pub use Rattle.request_book.specs.work.register.Named.{over_id}
pub use Rattle.request_book.specs.work.register.Register.{HasRoom, IsIndexed, pool_id, state_of}
