-- The past of a day: what a report keeps of it, and where it ends.
use Rattle.std.specs.Prelude.{◌≡◌, ◌≢◌, ℕ, ◌≤◌, ◌<◌, ◌^◌, Bool, true, List, [], ◌∷◌, ◌++◌, length, take, fold, Option, None, Some, if◌then◌else◌}
use Rattle.std.specs.Option.{option_map_or}
use Rattle.dispatch_engine.specs.lanes.Run.{position_after_run, state_after_run}
use Rattle.dispatch_report.specs.Round.{end_text, round_line}
use Rattle.input_rows.specs.declared.script.script_row.ScriptRow.{ScriptRow}
use Rattle.live_dispatch.specs.Live.{IsBegunRun, journals_text, rows_rounds}
use Rattle.report_audit.specs.report.Report.{closes}
use Rattle.report_audit.specs.declared.report.fault.AuditFault.{AuditFault}
use Rattle.report_audit.specs.declared.report.fault.AuditFault.TheVariants.{OutOfMemory}
use Rattle.report_audit.specs.report.Types.{JournalsAreTold}
use Rattle.request_book.specs.Book.{BookView, IsBook, opening}
use Rattle.request_book.specs.notices.Notices.{entry_notices}
use Rattle.request_book.specs.register.Step.{step}
use Rattle.request_book.specs.values.Batch.{Batch}
use Rattle.request_book.specs.declared.notices.notice.Notice.{Notice}
use Rattle.request_book.specs.declared.values.journal.Entry.{Entry}
use Rattle.request_book.specs.declared.values.journal.Journal.{Journal}
use Rattle.request_book.specs.declared.values.outcome.Outcome.{Outcome}
use Rattle.request_book.specs.declared.values.state.State.{State}
use Rattle.request_book.specs.declared.values.vehicle.Vehicle.{Vehicle}
use Rattle.rider_limits.specs.declared.settings.Settings.{Settings}
use Rattle.road_network.specs.Roads.{Roads}
use Rattle.report_past.specs.Told.{AreScriptRows, IsToldRun, PastIsGood, closed_with}
use Rattle.report_past.specs.Whole.{IsWholeText}

-- the line of a round, if it stands there, and behind it the last line of a report, if it does
abbrev pub dropped_text : Option ℕ → Option ℕ → List ℕ
dropped_text round entries = option_map_or round_line round [] ++ option_map_or end_text entries []

-- of the longest beginning of the text that is whole, all is kept but the last line of a report and the line of an empty
-- round at its end
pub record IsKeptPart (text kept : List ℕ) : Type 0 where
  pub round : Option ℕ
  pub entries : Option ℕ
  pub rest : List ℕ
  pub parts : text ≡ (kept ++ dropped_text round entries) ++ rest
  pub whole : IsWholeText (kept ++ dropped_text round entries)
  pub longest : (m : ℕ) → m ≤ length text → IsWholeText (take m text) → m ≤ length (kept ++ dropped_text round entries)

-- the round of the last row
abbrev pub last_round : List ScriptRow → Option ℕ
last_round rows = fold (λ last row. Some row.round) None rows

module _ (nodes : List ℕ) (wait : ℕ) where
  -- the notices of the last batch that entries close from this state, or these where they close none
  unfoldable pub last_notices : State → List Notice → List Entry → List Notice
  last_notices s told [] = told
  last_notices s told (e ∷ es) = last_notices (step nodes wait s e.command).0 (if closes e.command e.reply then entry_notices s e.command e.reply else told) es

-- the notices of the last batch that journals close
abbrev pub notices_of_last : Settings → Roads → List Journal → List Notice
notices_of_last settings roads made = fold (λ told j. last_notices roads.nodes settings.wait j.base told j.entries) [] made

-- the book stands behind these journals, and has no entries of its own; this batch waits for its close, if one does
pub record StandsBehind (settings : Settings) (roads : Roads) (vehicles : List Vehicle) (made : List Journal) (b : BookView) (open_batch : Option Batch) : Type 0 where
  pub kept : IsBook b
  pub nodes : b.nodes ≡ roads.nodes
  pub wait : b.wait ≡ settings.wait
  pub first : b.first ≡ position_after_run 0 made
  pub low : b.first < 2 ^ 64
  pub base : b.base ≡ state_after_run settings roads (opening vehicles) made
  pub empty : b.entries ≡ []
  pub state : b.state ≡ b.base
  pub sealed : b.state.sealed ≡ open_batch

-- of the text behind the head of a report this is kept. It tells these rows with replies that are the step's, and however
-- the batch that is open is closed, closes stand where they must. Nothing is said of what closes tell, unless they were
-- judged
pub record IsPast (settings : Settings) (roads : Roads) (vehicles : List Vehicle) (judged : Bool) (text kept : List ℕ) (last : Option ℕ) (b : BookView) (open_batch : Option Batch) (notices : List Notice) : Type 0 where
  pub cut : IsKeptPart text kept
  pub rows : List ScriptRow
  pub lawful : AreScriptRows 0 rows
  pub last_is : last ≡ last_round rows
  pub made : List Journal
  pub told : (outcome : Outcome) → IsToldRun settings roads (opening vehicles) 0 (rows_rounds rows) (closed_with open_batch outcome made)
  pub printed : kept ≡ journals_text true (rows_rounds rows) made
  pub book : StandsBehind settings roads vehicles made b open_batch
  pub notices_are : notices ≡ notices_of_last settings roads made
  pub good : judged ≡ true → PastIsGood settings roads made

-- a run of rows may leave the text behind the head of its report: it is a beginning of the report of what was run
pub record MayBeLeft (settings : Settings) (roads : Roads) (vehicles : List Vehicle) (text : List ℕ) : Type 0 where
  pub rows : List ScriptRow
  pub lawful : AreScriptRows 0 rows
  pub made : List Journal
  pub run : IsBegunRun settings roads (opening vehicles) 0 (rows_rounds rows) made
  pub types : JournalsAreTold made
  pub rest : List ℕ
  pub begins : text ++ rest ≡ journals_text true (rows_rounds rows) made ++ end_text (position_after_run 0 made)

-- why a text has no past: memory is wanting, or no run leaves the text
abbrev pub PastFails : Settings → Roads → List Vehicle → List ℕ → AuditFault → Type 0
PastFails settings roads vehicles text fault = fault ≢ OutOfMemory → MayBeLeft settings roads vehicles text → ⊥
