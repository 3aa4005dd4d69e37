-- The names that the proofs of this crate cite from elsewhere, passed on from one place. Declares nothing.
pub use Rattle.std.proofs.lemmas.Result.{IfOk-weaker, err_from_is_err_and}
pub use Rattle.std.proofs.lemmas.Bool.{and_from, and_parts, both_ways, cases_eq, cases_lt, cond-true, cond_both, eqb-false}
pub use Rattle.std.proofs.lemmas.List.{
  append_cancel_left,
  at_drop_more,
  drop_all,
  drop_more,
  get_or-append_right,
  get_or-map,
  get_or-replicate,
  get_or_append_left,
  get_or_default,
  get_or_past,
  get_or_push,
  length-map,
  length-replicate,
  length_push,
  map-append,
  map_push,
  nil_from_length,
  take_more,
  with_items_is,
}
pub use Rattle.std.proofs.lemmas.List.Elements.{All-append, All-cons, All-contains, All-from_get_or, All-head, All-map, All-push, All-tail, filter_passes}
pub use Rattle.std.proofs.lemmas.List.Sums.{position_or_len_is, prefix_len-le-length}
pub use Rattle.std.proofs.lemmas.Option.{slice_get-get_or, slice_get-map}
pub use Rattle.std.specs.List.{AllByRecursion, AllZip, list_all, position, position_or_len, range_with_len}
pub use Rattle.request_book.specs.values.Batch.{Batch}
pub use Rattle.request_book.specs.declared.values.vehicle.Vehicle.{Vehicle}
pub use Rattle.report_audit.specs.block.Block.{BeginsWithGood, BeginsWithWrong, MeetsAs, Refuses}
pub use Rattle.report_audit.specs.declared.block.refusal.BlockRefusal.{BlockRefusal}
pub use Rattle.dispatch_engine.proofs.lemmas.lanes.LaneLemmas.{plain-quiet}
pub use Rattle.dispatch_engine.proofs.lemmas.lanes.ProgressLemmas.{come_more}
unfoldable pub use Rattle.dispatch_engine.specs.lanes.Lane.{ClosesAreGood}
pub use Rattle.dispatch_engine.specs.lanes.Lane.{IsCloseOf, IsGoodClose, IsLaneBeginning, IsLaneRun, IsLaneRunFrom, last_sealed, of_lane}
pub use Rattle.dispatch_engine.specs.lanes.Progress.{AreDone, HaveCome, IsNext, IsNextFrom, IsRest, at_start, progress_after, progress_at}
pub use Rattle.dispatch_engine.specs.lanes.Run.{IsRoundRun, IsRun, journal_of, position_after_run, state_after_run}
pub use Rattle.dispatch_engine.specs.declared.lanes.lane_progress.LaneProgress.{LaneProgress}
pub use Rattle.dispatch_report.specs.Entry.{command_text, entry_line, refusal_text, reply_text, rider_status_text}
pub use Rattle.dispatch_report.specs.Fits.{IsCommand, IsId, IsReply, TellsEnd}
unfoldable pub use Rattle.dispatch_report.specs.Head.{head_text}
pub use Rattle.dispatch_report.specs.Head.{settings_line}
unfoldable pub use Rattle.dispatch_report.specs.Lines.{lines_text}
unfoldable pub use Rattle.dispatch_report.specs.Round.{end_text, entries_lines, round_text}
pub use Rattle.dispatch_report.specs.Round.{entry_block}
unfoldable pub use Rattle.dispatch_report.specs.Words.{numbered, signed}
pub use Rattle.dispatch_report.specs.Words.{spaced}
pub use Rattle.pool_io.specs.Faults.{one_more}
pub use Rattle.report_audit.specs.report.Fault.{FailsAsLine, FailsAt, HasFault, IsCut, IsOutOfForm, IsWrongBatch, IsWrongBlock, IsWrongLine}
pub use Rattle.report_audit.specs.report.Place.{
  AreAtEnd,
  BeginsRound,
  Extent,
  IsInForm,
  IsRightUpTo,
  MayComeNext,
  MayFollow,
  position_behind,
  rounds_so_far,
  state_behind,
}
pub use Rattle.report_audit.specs.report.Report.{IsAudited, IsReportOfRun, batches_after, closes, rounds_text}
pub use Rattle.report_audit.specs.report.Types.{AreTold, HasFittingBlock, IsTold, JournalsAreTold}
pub use Rattle.report_audit.specs.declared.report.fault.AuditFault.{AuditFault}
pub use Rattle.report_audit.specs.work.report.Place.{entries_text, with_entry, with_more}
pub use Rattle.report_audit.specs.work.report.Standing.{
  BlockRefuses,
  EntryRead,
  IsBetween,
  IsBookOf,
  IsFaultAt,
  IsGiven,
  IsInRound,
  IsOpen,
  IsOtherLine,
  IsRoundStart,
  IsWithin,
  OnlyFollows,
  TakesClose,
  TakesCommand,
  Waits,
  close_line,
  fault_of_head,
  line_left,
}
pub use Rattle.report_audit.specs.lines.Cut.{is_one_line}
pub use Rattle.report_audit.specs.lines.Head.{BeginsWithHead}
pub use Rattle.report_audit.specs.lines.HeadFault.{FitsLine, HasForm, HeadFails, HeadLine, LineFails, LinesFail, head_lines, sizes_of}
pub use Rattle.report_audit.specs.lines.HeadLines.{AreSettings, AreSizes, settings_text, sizes_text}
pub use Rattle.report_audit.specs.lines.Line.{IsFirstLine}
pub use Rattle.report_audit.specs.lines.Settings.{AreLawful, AreSettingsOf}
pub use Rattle.report_audit.specs.lines.Next.{IsEntry, IsNextLine}
pub use Rattle.report_audit.specs.declared.lines.head_fault.HeadFault.{HeadFault}
pub use Rattle.report_audit.specs.declared.lines.next.NextLine.{NextLine}
pub use Rattle.request_book.proofs.lemmas.BookLemmas.{applied-book, replies-push, round-book}
pub use Rattle.request_book.proofs.lemmas.register.StepTable.{by-table, would_seal-table}
pub use Rattle.request_book.specs.Book.{BookView, IsApplied, IsBook, next_position, opening, would_seal}
pub use Rattle.request_book.specs.values.Command.{IsNoClose}
unfoldable pub use Rattle.request_book.specs.Replay.{RepliesAreSteps, state_after}
unfoldable pub use Rattle.request_book.specs.lemmas.register.Named.{sealed_state}
pub use Rattle.request_book.specs.register.Sealing.{batch_of}
unfoldable pub use Rattle.request_book.specs.register.Step.{cancel, close, dropoff, pickup, report, seal, step, submit}
pub use Rattle.request_book.specs.register.Step.{answered}
pub use Rattle.request_book.specs.declared.values.command.Command.{Command}
pub use Rattle.request_book.specs.declared.values.command.Command.TheVariants.{Cancel, Close, Dropoff, Pickup, Report, Seal, Submit}
pub use Rattle.request_book.specs.declared.values.journal.Entry.{Entry}
pub use Rattle.request_book.specs.declared.values.journal.Journal.{Journal}
pub use Rattle.request_book.specs.declared.values.outcome.Outcome.{Outcome}
pub use Rattle.request_book.specs.declared.values.reply.BookRefusal.{BookRefusal}
pub use Rattle.request_book.specs.declared.values.reply.BookRefusal.TheVariants.{BatchOpen, ClockBack, Ended, IsAboard, NotPromised, NotThisBatch, TimeBack}
pub use Rattle.request_book.specs.declared.values.reply.Reply.{Reply}
pub use Rattle.request_book.specs.declared.values.reply.Reply.TheVariants.{Accepted, Cancelled, Closed, Dropped, Picked, Placed, Refused, Sealed}
pub use Rattle.request_book.specs.declared.values.rider.Status.{Status}
pub use Rattle.request_book.specs.declared.values.rider.Status.TheVariants.{Aboard, Promised, Waiting}
pub use Rattle.request_book.specs.declared.values.state.State.{State}
unfoldable pub use Rattle.request_book.specs.lemmas.register.Table.{close_step, seal_step, table_step}
pub use Rattle.request_book.specs.lemmas.register.Table.{answer, batch_unless, seal_refusal}
pub use Rattle.rider_limits.specs.declared.settings.Settings.{Settings}
pub use Rattle.road_network.specs.Roads.{Roads, index_in}
pub use Rattle.input_rows.specs.script.Round.{IsRound, MayStand, NumberedLanes, lane_at}
pub use Rattle.dispatch_engine.specs.lanes.Locked.{sealed_by, snapshot_before}
pub use Rattle.report_audit.specs.block.Judged.{
  CanBeTold,
  HasTrips,
  NamesRow,
  at_most,
  judged_outcome,
  judged_plan,
  late_of,
  node_of,
  number_among,
  row_of,
  trip_of,
}
pub use Rattle.report_audit.specs.block.BlockLists.{BlockLists, nothing_told, told_by, with_line}
pub use Rattle.report_audit.specs.work.block.Judged.{HoldUpTo, stops_of}
pub use Rattle.report_audit.specs.work.block.BlockLists.{told_in}
pub use Rattle.plan_rules.specs.declared.node.Node.{Node}
pub use Rattle.report_audit.specs.lines.Order.{follow_on, is_between, kind_place, last_place, may_follow_at}
pub use Rattle.dispatch_report.specs.Block.{block_line_text, block_lines, late_as_line, lines_of, pair_line, row_as_line, stop_text, tree_line, trip_as_line}
pub use Rattle.dispatch_report.specs.declared.block_line.BlockLine.{BlockLine}
pub use Rattle.dispatch_report.specs.declared.block_line.BlockLine.TheVariants.{
  Alone,
  Bound,
  Branch,
  Cost,
  Dead,
  End,
  Expired,
  Lapsed,
  Late,
  Leaf,
  Move,
  Nodes,
  Out,
  Overflow,
  TripRow,
  Shared,
  Trip,
}
pub use Rattle.dispatch_report.specs.declared.block_line.LateText.{LateText}
pub use Rattle.dispatch_report.specs.declared.block_line.TripRowText.{TripRowText}
pub use Rattle.dispatch_report.specs.declared.block_line.TripText.{TripText}
pub use Rattle.request_book.specs.declared.values.outcome.TripRowLine.{TripRowLine}
pub use Rattle.request_book.specs.declared.values.outcome.Answer.{Answer}
pub use Rattle.dispatch_engine.specs.outcome.Outcome.{AnswersWith, HasGraphsWith, IsGoodOutcome, IsGoodPlan, IsOutcomeWith}
pub use Rattle.request_book.specs.values.Kept.{IsKept}
pub use Rattle.report_audit.specs.points.Verdict.{IsVerdictOf, Meets, point_place}
pub use Rattle.request_book.specs.declared.values.outcome.Planned.{Planned}
pub use Rattle.dispatch_engine.specs.declared.outcome.point.Point.{Point}
pub use Rattle.std.proofs.lemmas.Fmt.{decimal_digit, decimal_is_IsNumeral_wide}
pub use Rattle.std.proofs.lemmas.Grind.{flat_map-append}
pub use Rattle.std.specs.Char.{is_ascii_digit}
pub use Rattle.pool_base.specs.Number.{AllDigits, value_of}
pub use Rattle.pool_base.specs.lemmas.Number.{value_after}
pub use Rattle.report_audit.specs.lines.BlockLines.{BeginsBlock, BlockFails, IsBadBlock, IsBlock, IsCutBlock}
pub use Rattle.report_audit.specs.lines.BlockLine.{AreIds, FitsStop, IsBlockLine, IsLong, IsWide}
pub use Rattle.report_audit.specs.lines.Reading.{BeginsWith, BeginsWithNone, BothAre, both_texts, ends_number}
pub use Rattle.report_audit.specs.declared.lines.head.SettingsText.{SettingsText}
pub use Rattle.report_audit.specs.work.lines.Head.{HasHead, IsShortNumber, LinesThen, dwell_text, fleet_line, told_lines, told_of}
pub use Rattle.report_audit.specs.work.lines.Entries.{
  IsAnswered,
  IsAnyReply,
  IsTextOf,
  IsToldBy,
  IsToldByAny,
  fields_of,
  party_text,
  replies,
  spaced_reply,
  told_text,
  word_replies,
}
pub use Rattle.report_audit.specs.work.lines.Lines.{IsOrder, IsVisit, order_text, visit_text}
pub use Rattle.request_book.specs.declared.values.outcome.PlannedStop.{PlannedStop}
pub use Rattle.assignment_search.specs.Found.{IsBestNear, IsClose, IsFair, IsFairNode, IsJustified, ShowsBound}
unfoldable pub use Rattle.assignment_search.specs.Growth.{choice_count}
pub use Rattle.assignment_search.specs.Growth.{product_below}
pub use Rattle.request_book.proofs.lemmas.values.KeptLemmas.{once_apart}
pub use Rattle.request_book.specs.lemmas.values.Kept.{IsOnce, riders_aboard}
pub use Rattle.dispatch_engine.proofs.lemmas.outcome.LeftLemmas.{kept_few}
pub use Rattle.dispatch_engine.proofs.lemmas.outcome.MoveLemmas.{has_places, no_moves, none_matched, pairs_within}
pub use Rattle.dispatch_engine.proofs.lemmas.outcome.TripLemmas.{valid_task, vehicle_read}
pub use Rattle.dispatch_engine.specs.outcome.Instance.{posed_by}
pub use Rattle.dispatch_engine.specs.outcome.Moves.{AreMoves, idle_vehicles, is_idle, move_line, origins_of, starts_of}
pub use Rattle.dispatch_engine.specs.outcome.Points.{GivesPlanWith, Holds, Posed}
pub use Rattle.dispatch_engine.specs.outcome.Told.{left_riders, rider_id, told_stop}
pub use Rattle.dispatch_engine.specs.outcome.Trips.{AreLate, AreTrips, IsLate, IsLateOrder, IsTripOf}
pub use Rattle.dispatch_engine.specs.lemmas.outcome.Named.{told_stops, vehicle_id}
pub use Rattle.bound_checker.specs.lemmas.Visit.{coming_of}
pub use Rattle.report_audit.specs.declared.points.verdict.Verdict.{Verdict}
pub use Rattle.report_audit.specs.declared.points.verdict.Verdict.TheVariants.{Fails, Good}
pub use Rattle.report_audit.specs.work.points.Moves.{CanPrecede, HaveOwnPlaces, IsPairWithin, TellsMoves, no_move}
pub use Rattle.report_audit.specs.work.points.Nodes.{HasMultipliers, IsLimit}
pub use Rattle.report_audit.specs.work.points.Orders.{HasNoOrder, HasOwnIds}
pub use Rattle.report_audit.specs.work.points.Refusals.{IsRefusal}
pub use Rattle.report_audit.specs.work.points.Verdict.{verdict_place}
pub use Rattle.report_audit.specs.work.points.Trips.{GivesTrips, IsLeast, TellsPlan, TellsRow}
pub use Rattle.plan_rules.proofs.lemmas.GraphLemmas.{between_row, row_between, row_read}
pub use Rattle.plan_rules.proofs.lemmas.PathLemmas.{coming_entered, coming_start, path_none, path_push}
pub use Rattle.plan_rules.proofs.lemmas.ReadLemmas.{places_append, places_push, reads_push}
pub use Rattle.plan_rules.proofs.lemmas.SearchTreeLemmas.{places_are, reads_of_tree, value_is_read}
pub use Rattle.plan_rules.proofs.lemmas.UsableLemmas.{Agree, agree_back, first_fit_value_agrees, leaf_value_agrees}
pub use Rattle.plan_rules.specs.GoodGraph.{IsGoodGraph}
pub use Rattle.plan_rules.specs.Graph.{Graph, IsRowOf, IsStartOf, choice_at, cost_at, no_row, riders_at, row_vehicle}
pub use Rattle.plan_rules.specs.Multipliers.{Usable, first_fit_value, is_usable_by, leaf_value, usable_of}
pub use Rattle.plan_rules.specs.Path.{IsPathOf, standing_of}
pub use Rattle.plan_rules.specs.Plan.{IsLawful, IsPlan, cost_of}
pub use Rattle.plan_rules.specs.Reading.{IsSoundNode, ReadsTo, coming_after, places_from}
pub use Rattle.plan_rules.specs.Sums.{count_below}
pub use Rattle.plan_rules.specs.Tree.{CanBranch, IsTreeOfValue, Place, every_row, rounded_up}
pub use Rattle.plan_rules.specs.lemmas.Graph.{HasNoRow}
pub use Rattle.plan_rules.specs.lemmas.Tree.{IsWholeTree, places_read}
pub use Rattle.pool_base.specs.Times.{point_count, travel_time}
pub use Rattle.dispatch_engine.proofs.lemmas.limits.Promises.{filter_range_below, filter_range_rises, rising_once}
pub use Rattle.dispatch_engine.specs.limits.Settling.{IsPlaced, IsSettled}
pub use Rattle.rebalancing.specs.Matching.{IsBestMatching, IsMatching, pair_seconds}
pub use Rattle.request_book.specs.declared.values.outcome.ChosenTrip.{ChosenTrip}
pub use Rattle.request_book.specs.declared.values.outcome.LateVehicle.{LateVehicle}
pub use Rattle.request_book.specs.declared.values.outcome.MoveLine.{MoveLine}
pub use Rattle.std.proofs.lemmas.Bool.Decides.{eqb_tells, nat_tests}
pub use Rattle.std.proofs.lemmas.List.FromFn.{get_or-range_with_len, length-range_with_len}
pub use Rattle.std.proofs.lemmas.Slice.Eq.{slice_eq-Decides}
pub use Rattle.std.specs.List.Sorted.{IsStrictlyIncreasing}
pub use Rattle.stop_orders.specs.task.Order.{IsKnown, is_of_rider}
pub use Rattle.stop_orders.specs.task.Settled.{IsTrip, no_rider, rider_at, trip_task, vehicle_at}
pub use Rattle.stop_orders.specs.task.Sound.{IsSound}
pub use Rattle.stop_orders.specs.task.Task.{IsOrderOf, ReachesAll, Serves, order_delay, seconds_of}
pub use Rattle.stop_orders.specs.declared.task.settled.Settled.{Settled}
pub use Rattle.stop_orders.specs.declared.task.settled_rider.SettledRider.{SettledRider}
pub use Rattle.stop_orders.specs.declared.task.settled_vehicle.SettledVehicle.{SettledVehicle}
pub use Rattle.stop_orders.specs.declared.task.stop.Stop.{Stop}
pub use Rattle.stop_orders.specs.declared.task.stop.Stop.TheVariants.{Alight, Drop, Pick}
pub use Rattle.stop_orders.specs.declared.task.task.Task.{Task}
pub use Rattle.stop_orders.specs.lemmas.task.Named.{no_vehicle}
pub use Rattle.travel_times.specs.table.Table.{AreTravelTimes}
pub use Rattle.trip_graph.specs.batch.Answer.{HasMoreRows, IsAnswer, IsTripGraphOf}
pub use Rattle.trip_graph.specs.pairs.RrGraph.{IsRrGraph}
pub use Rattle.trip_graph.specs.pairs.RvGraph.{IsRvGraph}
pub use Rattle.trip_graph.specs.declared.pairs.rv_edge.RvEdge.{RvEdge}
