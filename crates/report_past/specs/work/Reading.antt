-- How far the kept part of a report was read.
use Rattle.std.specs.Prelude.{◌≡◌, ℕ, ◌<◌, ◌≤◌, ◌^◌, zero, suc, ◌==◌, Bool, true, List, [], ◌∷◌, ◌++◌, map, filter, All, Option, None, Some, option_map}
use Rattle.std.specs.Option.{option_map_or}
use Rattle.dispatch_engine.specs.lanes.Lane.{ClosesAreGood, IsLaneRun, IsLaneRunFrom, of_lane}
use Rattle.dispatch_engine.specs.lanes.Run.{position_after_run, state_after_run}
use Rattle.dispatch_report.specs.Round.{round_line, round_text}
use Rattle.input_rows.specs.declared.script.script_row.ScriptRow.{ScriptRow}
use Rattle.live_dispatch.specs.Live.{journals_text, rows_rounds}
use Rattle.report_past.specs.Past.{dropped_text, last_notices, notices_of_last}
use Rattle.report_past.specs.Told.{AreScriptRows, IsToldRun, PastIsGood}
use Rattle.request_book.specs.Book.{BookView, next_position, opening}
use Rattle.request_book.specs.Replay.{RepliesAreSteps, state_after}
use Rattle.request_book.specs.values.Batch.{Batch}
use Rattle.request_book.specs.declared.notices.notice.Notice.{Notice}
use Rattle.request_book.specs.declared.values.command.Command.{Command}
use Rattle.request_book.specs.declared.values.journal.Entry.{Entry}
use Rattle.request_book.specs.declared.values.journal.Journal.{Journal}
use Rattle.request_book.specs.declared.values.vehicle.Vehicle.{Vehicle}
use Rattle.rider_limits.specs.declared.settings.Settings.{Settings}
use Rattle.road_network.specs.Roads.{Roads}

-- where a reading stands: the round of the last row, the book, the batch that is open, and the notices of the last close
pub record Stand : Type 0 where
  pub last : Option ℕ
  pub book : BookView
  pub open_batch : Option Batch
  pub notices : List Notice

-- by its parts
abbrev pub stand : Option ℕ → BookView → Option Batch → List Notice → Stand
stand last book open_batch notices = record { last = last; book = book; open_batch = open_batch; notices = notices }

-- the batch of which a lane owes the close: lane 0 of the one that is open, and no other lane of any
abbrev pub owed : Option Batch → ℕ → Option ℕ
owed open_batch zero = option_map (λ b. b.number) open_batch
owed open_batch (suc lane) = None

-- the commands of rows in a lane
abbrev pub commands_in : List ScriptRow → ℕ → List Command
commands_in rows lane = map (λ l. l.command) (filter (λ l. l.lane == lane) rows)

-- each row is of this round, and of one of the sixteen lanes
abbrev pub AreOf : ℕ → List ScriptRow → Type 0
AreOf number [] = Unit {0}
AreOf number (row ∷ rows) = (row.round ≡ number) × (row.lane < 16) × AreOf number rows

-- the round is a later one
abbrev pub IsAbove : Option ℕ → ℕ → Type 0
IsAbove None number = Unit {0}
IsAbove (Some last) number = last < number

-- an entry stands in this round: that of the last row, or one that begins before it
abbrev pub StandsIn : Option ℕ → Option Batch → Option ℕ → ℕ → Type 0
StandsIn last open_batch None number = last ≡ Some number
StandsIn last open_batch (Some round) number = (round ≡ number) × IsAbove last number × (number ≤ 1000000000) × (open_batch ≡ None)

-- what stands before an entry: the line of its round, where it begins
abbrev pub start_text : Option ℕ → List ℕ
start_text round = option_map_or round_line round []

module _ (settings : Settings) (roads : Roads) (vehicles : List Vehicle) (judged : Bool) where
  -- behind this text a round is read: rows of rounds before it, whose journals are closed, and its own rows with its
  -- journal; however the batch that is open is closed, its lanes are done
  pub record IsInRound (before : List ℕ) (front rows : List ScriptRow) (done : List Journal) (j : Journal) (number : ℕ) (b : BookView)
      (open_batch : Option Batch) (notices : List Notice) : Type 0 where
    pub told : IsToldRun settings roads (opening vehicles) 0 (rows_rounds front) done
    pub earlier : All (λ l. l.round < number) front
    pub own : AreOf number rows
    pub lawful : AreScriptRows 0 (front ++ rows)
    pub text : before ≡ journals_text true (rows_rounds front) done
    pub base : j.base ≡ state_after_run settings roads (opening vehicles) done
    pub first : j.first ≡ position_after_run 0 done
    pub low : j.first < 2 ^ 64
    pub replies : RepliesAreSteps roads.nodes settings.wait j.base j.entries
    pub lanes : (lane : ℕ) (rest : List Entry) → IsLaneRunFrom (owed open_batch lane) [] rest →
        IsLaneRun (commands_in rows lane) (of_lane lane j.entries ++ rest)
    pub nodes : b.nodes ≡ roads.nodes
    pub wait : b.wait ≡ settings.wait
    pub state : b.state ≡ state_after roads.nodes settings.wait j.base j.entries
    pub position : next_position b.first b.entries ≡ next_position j.first j.entries
    pub sealed : b.state.sealed ≡ open_batch
    pub notices_are : notices ≡ last_notices roads.nodes settings.wait j.base (notices_of_last settings roads done) j.entries
    pub good_before : judged ≡ true → PastIsGood settings roads done
    pub good : judged ≡ true → ClosesAreGood settings roads j.base j.entries

  -- nothing was read
  pub record IsAtStart (b : BookView) (open_batch : Option Batch) (notices : List Notice) : Type 0 where
    pub nodes : b.nodes ≡ roads.nodes
    pub wait : b.wait ≡ settings.wait
    pub state : b.state ≡ opening vehicles
    pub position : next_position b.first b.entries ≡ 0
    pub closed : open_batch ≡ None
    pub none : notices ≡ []

  -- this text was read, and here the reading stands
  pub data IsReading : List ℕ → Stand → Type 0 where
    at_start : (b : BookView) (open_batch : Option Batch) (notices : List Notice) → IsAtStart b open_batch notices →
        IsReading [] (stand None b open_batch notices)
    in_round : (before : List ℕ) (front : List ScriptRow) (row : ScriptRow) (rows : List ScriptRow) (done : List Journal) (j : Journal) (number : ℕ)
        (b : BookView) (open_batch : Option Batch) (notices : List Notice)
        → IsInRound before front (row ∷ rows) done j number b open_batch notices → IsReading (before ++ round_text number true j)
        (stand (Some number) b open_batch notices)

-- what is left is dropped: the line of an empty round and the last line of a report, or nothing
abbrev pub IsDropped : List ℕ → Type 0
IsDropped text = (round entries : Option ℕ) × (text ≡ dropped_text round entries)

-- from wherever a reading stands it comes on by this text
abbrev pub ReadsText : Settings → Roads → Bool → Stand → Stand → List ℕ → Type 0
ReadsText settings roads judged old new text =
    (vehicles : List Vehicle) (read : List ℕ) → IsReading settings roads vehicles judged read old → IsReading settings roads vehicles judged (read ++ text) new

-- a text was read up to this rest
pub record ReadsTo (settings : Settings) (roads : Roads) (judged : Bool) (old new : Stand) (text rest : List ℕ) : Type 0 where
  pub part : List ℕ
  pub whole : text ≡ part ++ rest
  pub reads : ReadsText settings roads judged old new part
