use Rattle.std.specs.Prelude.{◌≡◌, ◌≢◌, ℕ, true, List, ◌∷◌, ◌++◌, length, codes, []}
use Rattle.request_book.specs.declared.values.vehicle.Vehicle.{Vehicle}
use Rattle.dispatch_engine.specs.lanes.Lane.{of_lane, IsLaneRun, IsLaneBeginning, ClosesAreGood}
use Rattle.dispatch_engine.specs.lanes.Run.{IsRun, position_after_run, state_after_run}
use Rattle.dispatch_report.specs.Entry.{entry_line}
use Rattle.dispatch_report.specs.Head.{head_text}
use Rattle.dispatch_report.specs.Round.{round_text, end_text}
use Rattle.dispatch_report.specs.Words.{numbered}
use Rattle.report_audit.specs.lines.Next.{IsEntry, IsNextLine}
use Rattle.report_audit.specs.declared.lines.next.NextLine.{NextLine}
use Rattle.report_audit.specs.declared.lines.next.NextLine.TheVariants.{Entry as EntryOf}
use Rattle.request_book.specs.Book.{next_position, opening}
use Rattle.request_book.specs.Replay.{state_after, RepliesAreSteps}
use Rattle.request_book.specs.register.Step.{step}
use Rattle.request_book.specs.declared.values.journal.Entry.{Entry}
use Rattle.request_book.specs.declared.values.journal.Journal.{Journal}
use Rattle.request_book.specs.declared.values.state.State.{State}
use Rattle.rider_limits.specs.declared.settings.Settings.{Settings}
use Rattle.road_network.specs.Roads.{Roads}
use Rattle.input_rows.specs.script.Round.{NumberedLanes, lane_at}
use Rattle.report_audit.specs.report.Report.{rounds_text}
use Rattle.report_audit.specs.report.Types.{AreTold, JournalsAreTold}

-- How far a report is right, and which lines may follow there.

-- the state after a journal
abbrev pub state_behind : Settings → Roads → Journal → State
state_behind settings roads j = state_after roads.nodes settings.wait j.base j.entries

-- the position of the entry that follows a journal
abbrev pub position_behind : Journal → ℕ
position_behind j = next_position j.first j.entries

-- the entries begin a run of the round: replies are the step's, closes are good, each lane's entries begin a run of its
-- commands, and their numbers are within their types
pub record BeginsRound (settings : Settings) (roads : Roads) (round : NumberedLanes) (j : Journal) : Type 0 where
  pub replies : RepliesAreSteps roads.nodes settings.wait j.base j.entries
  pub closes : ClosesAreGood settings roads j.base j.entries
  pub lanes : (lane : ℕ) → IsLaneBeginning (lane_at round lane) (of_lane lane j.entries)
  pub told : AreTold j.first j.entries

-- no lane has anything still to do
abbrev pub AreAtEnd : NumberedLanes → Journal → Type 0
AreAtEnd round j = (lane : ℕ) → IsLaneRun (lane_at round lane) (of_lane lane j.entries)

-- the entry may come next: its command is the next of its lane, and its reply the step's
pub record MayComeNext (settings : Settings) (roads : Roads) (round : NumberedLanes) (j : Journal) (e : Entry) : Type 0 where
  pub line : IsEntry (position_behind j) e
  pub next : IsLaneBeginning (lane_at round e.lane) (of_lane e.lane (j.entries ++ e ∷ []))
  pub reply : e.reply ≡ (step roads.nodes settings.wait (state_behind settings roads j) e.command).1

-- how far a report is right
pub data Extent : Type 0 where
  -- behind these rounds and before those, or before the last line where none is left; the next entry has this position
  between : List NumberedLanes → List NumberedLanes → ℕ → Extent
  -- within a round, up to these entries
  within : NumberedLanes → Journal → Extent
  -- up to the last line
  finished : Extent

-- the line may stand next
abbrev pub MayFollow : Settings → Roads → Extent → List ℕ → Type 0
MayFollow settings roads (Extent.between before [] position) line = line ≡ numbered (codes "done ") position
MayFollow settings roads (Extent.between before (r ∷ rs) position) line = line ≡ numbered (codes "round ") r.number
MayFollow settings roads (Extent.within round j) line = (e : Entry) × MayComeNext settings roads round j e × (line ≡ entry_line (position_behind j) e)
MayFollow settings roads Extent.finished line = ⊥

-- the line has the form of one that may stand next: behind the last line nothing may, and before the first round no entry
abbrev pub IsInForm : Extent → List ℕ → Type 0
IsInForm Extent.finished line = ⊥
IsInForm (Extent.between [] later position) line = (x : NextLine) × IsNextLine x line × ((lane : ℕ) → x ≢ EntryOf lane)
IsInForm _ line = (x : NextLine) × IsNextLine x line

-- whole rounds of a run, and their journals
pub record HasRounds (settings : Settings) (roads : Roads) (vehicles : List Vehicle) (rounds : List NumberedLanes) (made : List Journal) : Type 0 where
  pub run : IsRun settings roads (opening vehicles) 0 rounds made
  pub told : JournalsAreTold made

-- the head and whole rounds
abbrev pub rounds_so_far : Settings → Roads → List Vehicle → List NumberedLanes → List Journal → List ℕ
rounds_so_far settings roads vehicles rounds made = head_text settings roads (length vehicles) ++ rounds_text rounds made

-- the text is right up to the end of a round
pub record IsRightBetween (settings : Settings) (roads : Roads) (vehicles : List Vehicle) (rounds before later : List NumberedLanes) (position : ℕ) (read : List ℕ) : Type 0 where
  pub made : List Journal
  pub all : rounds ≡ before ++ later
  pub rounds_made : HasRounds settings roads vehicles before made
  pub position_is : position ≡ position_after_run 0 made
  pub printed : read ≡ rounds_so_far settings roads vehicles before made

-- the text is right up to an entry within a round, whose lanes aren't all at their ends
pub record IsRightWithin (settings : Settings) (roads : Roads) (vehicles : List Vehicle) (rounds : List NumberedLanes) (round : NumberedLanes) (j : Journal) (read : List ℕ) : Type 0 where
  pub before : List NumberedLanes
  pub later : List NumberedLanes
  pub made : List Journal
  pub all : rounds ≡ before ++ round ∷ later
  pub rounds_made : HasRounds settings roads vehicles before made
  pub base_is : j.base ≡ state_after_run settings roads (opening vehicles) made
  pub first_is : j.first ≡ position_after_run 0 made
  pub begins : BeginsRound settings roads round j
  pub going : AreAtEnd round j → ⊥
  pub printed : read ≡ rounds_so_far settings roads vehicles before made ++ round_text round.number true j

-- the text is right up to the last line
pub record IsRightWhole (settings : Settings) (roads : Roads) (vehicles : List Vehicle) (rounds : List NumberedLanes) (read : List ℕ) : Type 0 where
  pub made : List Journal
  pub rounds_made : HasRounds settings roads vehicles rounds made
  pub printed : read ≡ rounds_so_far settings roads vehicles rounds made ++ end_text (position_after_run 0 made)

-- a text is right up to its end, and this is the place
abbrev pub IsRightUpTo : Settings → Roads → List Vehicle → List NumberedLanes → Extent → List ℕ → Type 0
IsRightUpTo settings roads vehicles rounds (Extent.between before later position) read = IsRightBetween settings roads vehicles rounds before later position read
IsRightUpTo settings roads vehicles rounds (Extent.within round j) read = IsRightWithin settings roads vehicles rounds round j read
IsRightUpTo settings roads vehicles rounds Extent.finished read = IsRightWhole settings roads vehicles rounds read
