-- When a text is the report of a run.
use Rattle.std.specs.Prelude.{◌≡◌, ℕ, Bool, true, false, List, [], ◌∷◌, ◌++◌, length, count_by, min, ◌+◌, ◌-◌, ◌^◌, fold}
use Rattle.request_book.specs.declared.values.vehicle.Vehicle.{Vehicle}
use Rattle.dispatch_engine.specs.lanes.Run.{IsRun, position_after_run}
use Rattle.dispatch_report.specs.Head.{head_text}
use Rattle.dispatch_report.specs.Round.{round_text, end_text}
use Rattle.report_audit.specs.lines.Settings.{AreSettingsOf}
use Rattle.request_book.specs.Book.{opening}
use Rattle.request_book.specs.declared.values.command.Command.{Command}
use Rattle.request_book.specs.declared.values.command.Command.TheVariants.{Close}
use Rattle.request_book.specs.declared.values.journal.Journal.{Journal}
use Rattle.request_book.specs.declared.values.reply.Reply.{Reply}
use Rattle.request_book.specs.declared.values.reply.Reply.TheVariants.{Closed}
use Rattle.rider_limits.specs.declared.settings.Settings.{Settings}
use Rattle.road_network.specs.Roads.{Roads}
use Rattle.input_rows.specs.script.Round.{NumberedLanes}
use Rattle.report_audit.specs.report.Types.{JournalsAreTold}
use Rattle.report_audit.specs.declared.report.fault.Audited.{Audited}

-- the texts of rounds, one behind the other, each with its number
abbrev pub rounds_text : List NumberedLanes → List Journal → List ℕ
rounds_text (r ∷ rs) (j ∷ js) = round_text r.number true j ++ rounds_text rs js
rounds_text _ _ = []

-- the text is the report of a run of these rounds from an empty book with these vehicles, printed with trees
pub record IsReportOfRun (roads : Roads) (vehicles : List Vehicle) (rounds : List NumberedLanes) (workers : ℕ) (text : List ℕ) : Type 0 where
  pub settings : Settings
  pub audited : AreSettingsOf workers settings
  pub made : List Journal
  pub run : IsRun settings roads (opening vehicles) 0 rounds made
  pub told : JournalsAreTold made
  pub printed : text ≡ head_text settings roads (length vehicles) ++ (rounds_text rounds made ++ end_text (position_after_run 0 made))

-- the command is a close that was answered `closed`
abbrev pub closes : Command → Reply → Bool
closes (Close batch outcome) Closed = true
closes _ _ = false

-- how many batches journals close, counted on from a number; the count stands still at the greatest number of 64 bits
abbrev pub batches_after : ℕ → List Journal → ℕ
batches_after count journals = fold (λ n j. min (n + count_by (λ e. closes e.command e.reply) j.entries) (2 ^ 64 - 1)) count journals

-- the text is the report of a run, which has so many entries and closes so many batches
pub record IsAudited (roads : Roads) (vehicles : List Vehicle) (rounds : List NumberedLanes) (workers : ℕ) (text : List ℕ) (audited : Audited) : Type 0 where
  pub report : IsReportOfRun roads vehicles rounds workers text
  pub entries : audited.entries ≡ position_after_run 0 report.made
  pub batches : audited.batches ≡ batches_after 0 report.made
