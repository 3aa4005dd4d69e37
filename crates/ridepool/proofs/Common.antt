-- The names that the proofs of this crate cite from elsewhere, passed on from one place. Declares nothing.
pub use Rattle.std.proofs.KnownBytes.{Appends-kept, Appends-nil, Appends-trans, Keeps-refl}
pub use Rattle.std.proofs.lemmas.List.{length-map, map-append}
pub use Rattle.std.proofs.lemmas.Result.{err_from_is_err_and}
pub use Rattle.std.specs.Io.KnownBytes.{Appends}
pub use Rattle.std.specs.List.{AllZip}
pub use Rattle.request_book.specs.declared.values.vehicle.Vehicle.{Vehicle}
pub use Rattle.dispatch_engine.specs.lanes.Run.{IsReady, IsRoundRun, IsRun, IsSameRun, journal_of, position_after_run, state_after_run}
pub use Rattle.pool_io.specs.Views.{Change, IsUntouched, SinkView, SourceView, source_seen}
pub use Rattle.dispatch_report.specs.Written.{WritesText}
pub use Rattle.dispatch_report.specs.declared.fault.ReportFault.{ReportFault}
pub use Rattle.input_rows.specs.live.Lines.{Streamed, lines_in}
pub use Rattle.input_rows.specs.made.Texts.{texts_of}
pub use Rattle.pool_base.specs.declared.which.Which.{Which}
pub use Rattle.pool_io.specs.Faults.{Rose}
pub use Rattle.pool_io.specs.Sink.{AppendsPart}
pub use Rattle.pool_io.specs.declared.input.Input.{Input}
pub use Rattle.report_audit.specs.declared.report.fault.Audited.{Audited}
pub use Rattle.request_book.specs.Book.{BookView, IsBook, next_position, opening}
unfoldable pub use Rattle.ridepool.specs.Audit.{yes_text}
pub use Rattle.ridepool.specs.Audit.{AnswersAudit, Confirms, EndsAudit, IsRightReport}
pub use Rattle.ridepool.specs.Drive.{AnswersDrive, DrivesDay, EndsDrive}
pub use Rattle.ridepool.specs.Inputs.{
  AreGood,
  AreReadFrom,
  AreUntouched,
  CameTo,
  HasNoWriteFault,
  Inputs,
  IsSourceTooLong,
  IsStop,
  IsWithin,
  Reads,
  StopsOrReads,
  TellInputs,
  Tells,
  most_bytes,
}
pub use Rattle.ridepool.specs.Live.{
  AnswersLive,
  AreLimited,
  AreRowsOf,
  BeginsLive,
  EndsLive,
  ExplainsLive,
  HasHead,
  IsFaultlessLive,
  IsLiveStop,
  IsSilentCall,
  IsUnbegun,
  LiveCall,
  LiveInputs,
  LiveSeen,
  live_head,
  opened_book,
  words_of_run,
}
pub use Rattle.ridepool.specs.Load.{AnswersLoad, AreTexts}
unfoldable pub use Rattle.ridepool.specs.Reading.{network_in, script_in, vehicles_in}
pub use Rattle.ridepool.specs.Reading.{IsFleetIn, first_version, in_rows, own_fault}
pub use Rattle.ridepool.specs.Report.{AppendsWithPart, EndsText, IsCutShort, IsPart, IsWhole, RunsRounds, journals_of, rounds_notices}
pub use Rattle.ridepool.specs.Run.{AnswersRun, RunsScript, RunsSome}
pub use Rattle.ridepool.specs.CallView.{IsSilent, CallView, Sources, source_at}
pub use Rattle.ridepool.specs.Status.{HidesNoMemory}
pub use Rattle.ridepool.specs.declared.inputs.ReadInputs.{ReadInputs}
pub use Rattle.ridepool.specs.declared.status.RunStatus.{RunStatus}
pub use Rattle.ridepool.specs.declared.status.RunStatus.TheVariants.{
  Day,
  Done,
  Fleet,
  Network,
  OutOfMemory,
  ReadFault,
  Report,
  Script,
  TooLate,
  TooLong,
  Words,
  WriteFault,
}
pub use Rattle.ridepool.specs.work.Auditing.{IsAuditFault, IsSameSink, RefusesBytes, WritesYes}
pub use Rattle.ridepool.specs.work.Ended.{IsLimited, IsNoReport, IsRunReport}
pub use Rattle.ridepool.specs.work.Held.{HoldsRound, HoldsRounds}
pub use Rattle.ridepool.specs.work.Reading.{
  AreInputs,
  GotInputs,
  IsNoInput,
  IsReadAsNoDay,
  IsUnread,
  ReadSources,
  RefusesFleet,
  RefusesNetwork,
  RefusesRounds,
  StopsAt,
  inputs_got,
}
pub use Rattle.ridepool.specs.work.Writing.{
  AreAllRoundsWith,
  AreFirstRounds,
  BeginsRounds,
  EndsRounds,
  HasPut,
  IsDayFor,
  IsReportFault,
  IsReportWhole,
  IsRoundFault,
  IsTextFault,
  IsUnput,
  IsWritingFault,
  NextJournal,
  PutsRound,
  RunsAll,
  RunsFirst,
  RunsFrom,
  StopsIn,
  WritesRound,
  added_by,
  added_text,
  day_ending,
  first_text,
  head_of,
  late_status,
  made_of,
  rounds_text,
  status_of,
}
pub use Rattle.rider_limits.specs.Words.{fault_of}
pub use Rattle.rider_limits.specs.declared.load_shape.LoadShape.{LoadShape}
pub use Rattle.rider_limits.specs.declared.settings.Mode.{Mode}
pub use Rattle.rider_limits.specs.declared.settings.Mode.TheVariants.{Audit, Drive, Load, Run}
pub use Rattle.rider_limits.specs.declared.settings.Settings.{Settings}
pub use Rattle.request_book.specs.notices.Notices.{notices}
pub use Rattle.request_book.specs.notices.Seen.{notifier_seen}
pub use Rattle.request_book.specs.notices.Told.{HaveHeard, NotifierView}
pub use Rattle.road_network.specs.Roads.{Roads}
pub use Rattle.route_drive.specs.Day.{day_fault}
pub use Rattle.route_drive.specs.declared.day.DayFault.{DayFault}
pub use Rattle.route_drive.specs.declared.day_run.DayRound.{DayRound}
pub use Rattle.input_rows.specs.script.Round.{NumberedLanes}
