-- The names that the proofs of this crate cite from elsewhere, passed on from one place. Declares nothing.
pub use Rattle.std.proofs.KnownBytes.{Appends-nil, Appends-trans}
pub use Rattle.std.proofs.Math.Seq.{take-append-add, take-append_seam}
pub use Rattle.std.proofs.lemmas.Bool.{cases_lt, cases_order}
pub use Rattle.std.proofs.lemmas.Bool.Decides.{nat_tests}
pub use Rattle.std.proofs.lemmas.List.{get_or_past, map-append}
pub use Rattle.std.proofs.lemmas.List.Elements.{All-head, All-nil, All-push, All-same, All-tail, All-weaker, filter-append}
pub use Rattle.std.specs.Io.KnownBytes.{Appends}
pub use Rattle.request_book.specs.values.Batch.{Batch}
pub use Rattle.dispatch_engine.proofs.lemmas.lanes.LaneLemmas.{IsInZero, closes-join, each-told, ends-closed}
pub use Rattle.dispatch_engine.proofs.lemmas.lanes.RunLemmas.{begun-next, filter-mapped, position-more, run-append, run-more, snapshot-known, state-more}
pub use Rattle.dispatch_engine.proofs.lemmas.lanes.StandLemmas.{stands-plain}
unfoldable pub use Rattle.dispatch_engine.specs.lanes.Lane.{ClosesAreGood}
pub use Rattle.dispatch_engine.specs.lanes.Lane.{IsCloseOf, IsGoodClose, IsGoodFor, IsLaneBeginning, IsLaneRun, IsLaneRunFrom, LaneClosesAreGood, of_lane}
pub use Rattle.dispatch_engine.specs.lanes.Run.{IsReady, IsRoundRun, IsRun, position_after_run, state_after_run}
unfoldable pub use Rattle.dispatch_report.specs.Lines.{lines_text}
unfoldable pub use Rattle.dispatch_report.specs.Round.{end_text, round_text}
pub use Rattle.dispatch_report.specs.Round.{entries_lines, entry_text, round_line}
pub use Rattle.dispatch_report.specs.Words.{numbered}
pub use Rattle.pool_io.specs.Views.{Change, SinkView}
pub use Rattle.dispatch_report.specs.Written.{WritesText}
pub use Rattle.dispatch_report.specs.declared.fault.ReportFault.{ReportFault}
pub use Rattle.live_dispatch.proofs.lemmas.TakenLemmas.{all-begin, runs-begin, runs-more, takes-all, takes-begin, takes-more, takes-none, takes-start}
pub use Rattle.live_dispatch.specs.Phase.{
  AreRows,
  BeginWithRows,
  ClosesBatch,
  FaultsFrom,
  GoesOn,
  TakesRun,
  commands_of_pass,
  desk_after,
  entry_command,
  row_command,
}
pub use Rattle.live_dispatch.specs.declared.read_on.Halt.{Halt}
pub use Rattle.live_dispatch.proofs.lemmas.EntryLemmas.{entries-append, lines-append, next-append, next-low, notices-append, one-text, state-append}
pub use Rattle.live_dispatch.specs.Desk.{IsPassedOn, OutputsView, desk_of, desk_root, entries_text, notices_in, outputs_seen, pass_of, text_of}
pub use Rattle.live_dispatch.specs.declared.desk.LaneCommand.{LaneCommand}
pub use Rattle.live_dispatch.specs.Live.{
  AreWhole,
  BeginsRows,
  ButLast,
  EndsWithin,
  HasAppended,
  IsBegunRun,
  IsRoundBeginning,
  journals_notices,
  journals_text,
  rows_text,
}
pub use Rattle.live_dispatch.specs.declared.fault.LiveFault.{LiveFault}
pub use Rattle.live_dispatch.specs.work.Rows.{EndsIn, EndsWith, in_lane, last_of, round_numbers, start_text}
pub use Rattle.live_dispatch.specs.work.Standing.{
  AppendsSome,
  Awaits,
  GivesNext,
  HasCut,
  HasEnded,
  HasRunOn,
  HasTaken,
  HaveCome,
  Moment,
  Opens,
  Stands,
  WritesSome,
  ended_by,
  entry_for,
  moment,
  of_line,
  of_report,
  outputs_of,
  row_text,
}
pub use Rattle.input_rows.specs.live.Rows.{ComesBehind, TakesRows}
pub use Rattle.pool_io.specs.Faults.{Rose}
pub use Rattle.pool_io.specs.Sink.{AppendsPart}
pub use Rattle.request_book.specs.Book.{BookView, IsBook, next_position}
unfoldable pub use Rattle.request_book.specs.Replay.{RepliesAreSteps, state_after}
pub use Rattle.request_book.specs.register.Step.{step}
pub use Rattle.request_book.specs.declared.values.command.Command.{Command}
pub use Rattle.request_book.specs.declared.values.command.Command.TheVariants.{Close}
pub use Rattle.request_book.specs.declared.values.journal.Entry.{Entry}
pub use Rattle.request_book.specs.declared.values.journal.Journal.{Journal}
pub use Rattle.request_book.specs.declared.values.reply.Reply.{Reply}
pub use Rattle.request_book.specs.declared.values.state.State.{State}
pub use Rattle.rider_limits.specs.declared.settings.Settings.{Settings}
pub use Rattle.request_book.proofs.lemmas.notices.HeardLemmas.{all-heard-more, all-heard-nothing}
unfoldable pub use Rattle.request_book.specs.notices.Notices.{notices_from}
pub use Rattle.request_book.specs.notices.Notices.{entry_notices}
pub use Rattle.request_book.specs.notices.Seen.{notifiers_seen}
pub use Rattle.request_book.specs.notices.Told.{HaveHeard, NotifierView}
pub use Rattle.request_book.specs.declared.notices.notice.Notice.{Notice}
pub use Rattle.road_network.specs.Roads.{Roads}
pub use Rattle.input_rows.specs.script.ScriptRow.{IsBehind}
pub use Rattle.input_rows.specs.script.Round.{MayStand, NumberedLanes, lane_at}
pub use Rattle.input_rows.specs.script.Script.{round_of}
pub use Rattle.input_rows.specs.declared.script.script_row.ScriptRow.{ScriptRow}
pub use Rattle.input_rows.specs.lemmas.script.Named.{rounds_of}
pub use Rattle.dispatch_engine.proofs.lemmas.lanes.LockedLemmas.{applied-fits, step-seals}
unfoldable pub use Rattle.dispatch_engine.specs.lanes.Locked.{calls_from}
pub use Rattle.dispatch_engine.specs.lanes.Locked.{sealed_by}
