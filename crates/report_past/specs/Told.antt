-- What a report tells of a run, whether its closes are good or not.
use Rattle.std.specs.Prelude.{◌≡◌, ℕ, List, [], ◌∷◌, ◌++◌, ◌<◌, All, Option, None, Some}
use Rattle.dispatch_engine.specs.lanes.Lane.{ClosesAreGood, IsLaneRun, of_lane}
use Rattle.input_rows.specs.declared.script.script_row.ScriptRow.{ScriptRow}
use Rattle.input_rows.specs.script.Round.{NumberedLanes, lane_at}
use Rattle.input_rows.specs.script.ScriptRow.{IsBehind}
use Rattle.request_book.specs.Book.{next_position}
use Rattle.request_book.specs.Replay.{RepliesAreSteps, state_after}
use Rattle.request_book.specs.values.Batch.{Batch}
use Rattle.request_book.specs.declared.values.command.Command.TheVariants.{Close}
use Rattle.request_book.specs.declared.values.journal.Entry.{Entry}
use Rattle.request_book.specs.declared.values.journal.Journal.{Journal}
use Rattle.request_book.specs.declared.values.outcome.Outcome.{Outcome}
use Rattle.request_book.specs.declared.values.reply.Reply.TheVariants.{Closed}
use Rattle.request_book.specs.declared.values.state.State.{State}
use Rattle.rider_limits.specs.declared.settings.Settings.{Settings}
use Rattle.road_network.specs.Roads.{Roads}

-- rows that a script may have: each stands behind the round of the row before it
abbrev pub AreScriptRows : ℕ → List ScriptRow → Type 0
AreScriptRows last [] = Unit {0}
AreScriptRows last (row ∷ rows) = IsBehind last row × AreScriptRows row.round rows

-- the row belongs to a later round than this one, if there is one
abbrev pub IsLater : Option ℕ → ScriptRow → Type 0
IsLater None row = Unit {0}
IsLater (Some last) row = last < row.round

-- journals with one more entry in the last
abbrev pub with_last : Entry → List Journal → List Journal
with_last e [] = []
with_last e (j ∷ []) = (record j { entries = j.entries ++ e ∷ [] }) ∷ []
with_last e (j ∷ k ∷ js) = j ∷ with_last e (k ∷ js)

-- the entry of a batch's close that was answered `closed`
abbrev pub close_of : Batch → Outcome → Entry
close_of batch outcome = record { lane = 0; command = Close batch.number outcome; reply = Closed }

-- journals, and behind their last entry the close of the batch that is open, if one is
abbrev pub closed_with : Option Batch → Outcome → List Journal → List Journal
closed_with None outcome made = made
closed_with (Some batch) outcome made = with_last (close_of batch outcome) made

module _ (settings : Settings) (roads : Roads) where
  -- a journal tells a round: each reply is the step's, and each lane's entries are a run of its commands
  pub record IsToldRound (round : NumberedLanes) (journal : Journal) : Type 0 where
    pub replies : RepliesAreSteps roads.nodes settings.wait journal.base journal.entries
    pub lanes : (lane : ℕ) → IsLaneRun (lane_at round lane) (of_lane lane journal.entries)

  -- journals tell rounds, one after the other, from a state and a position
  abbrev pub IsToldRun : State → ℕ → List NumberedLanes → List Journal → Type 0
  IsToldRun s position [] [] = Unit {0}
  IsToldRun s position (r ∷ rs) (j ∷ js) =
      (j.base ≡ s) × (j.first ≡ position) × IsToldRound r j × IsToldRun (state_after roads.nodes settings.wait s j.entries) (next_position position j.entries) rs js
  IsToldRun s position _ _ = ⊥

  -- every close has an outcome that is good for its batch
  abbrev pub PastIsGood : List Journal → Type 0
  PastIsGood made = All (λ j. ClosesAreGood settings roads j.base j.entries) made
