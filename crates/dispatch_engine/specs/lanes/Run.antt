use Rattle.std.specs.Prelude.{◌≡◌, ◌==◌, ℕ, List, [], ◌∷◌, None, filter, fold}
use Rattle.request_book.specs.Book.{BookView, next_position}
use Rattle.request_book.specs.Replay.{state_after, RepliesAreSteps}
use Rattle.request_book.specs.declared.values.journal.Journal.{Journal}
use Rattle.request_book.specs.declared.values.state.State.{State}
use Rattle.rider_limits.specs.declared.settings.Settings.{Settings}
use Rattle.road_network.specs.Roads.{Roads}
use Rattle.input_rows.specs.script.Round.{NumberedLanes, lane_at}
use Rattle.dispatch_engine.specs.lanes.Lane.{IsLaneRunFrom, ClosesAreGood}

-- a journal is a run of a round: each reply is the step's, each close has a good outcome for the batch that stands
-- sealed before it, and each lane's entries are a run of its commands
pub record IsRoundRun (settings : Settings) (roads : Roads) (round : NumberedLanes) (journal : Journal) : Type 0 where
  pub replies : RepliesAreSteps roads.nodes settings.wait journal.base journal.entries
  pub closes : ClosesAreGood settings roads journal.base journal.entries
  pub lanes : (lane : ℕ) → IsLaneRunFrom None (lane_at round lane) (filter (λ e. e.lane == lane) journal.entries)

-- journals are a run of rounds, one after the other, from a state and a position
abbrev pub IsRun : Settings → Roads → State → ℕ → List NumberedLanes → List Journal → Type 0
IsRun settings roads s position [] [] = Unit {0}
IsRun settings roads s position (r ∷ rs) (j ∷ js) =
    (j.base ≡ s) × (j.first ≡ position) × IsRoundRun settings roads r j
    × IsRun settings roads (state_after roads.nodes settings.wait s j.entries) (next_position position j.entries) rs js
IsRun settings roads s position _ _ = ⊥

-- the state after journals
abbrev pub state_after_run : Settings → Roads → State → List Journal → State
state_after_run settings roads s journals = fold (λ t j. state_after roads.nodes settings.wait t j.entries) s journals

-- the position of the next entry after journals
abbrev pub position_after_run : ℕ → List Journal → ℕ
position_after_run position journals = fold (λ p j. next_position p j.entries) position journals

-- the journal that a book keeps
abbrev pub journal_of : BookView → Journal
journal_of b = record { first = b.first; base = b.base; entries = b.entries }

-- nothing but entries, state and room has changed
pub record IsSameRun (old new : BookView) : Type 0 where
  pub nodes : new.nodes ≡ old.nodes
  pub wait : new.wait ≡ old.wait
  pub first : new.first ≡ old.first
  pub base : new.base ≡ old.base

-- the book is over these roads and has this longest wait, and no batch waits for its close
pub record IsReady (settings : Settings) (roads : Roads) (b : BookView) : Type 0 where
  pub nodes : b.nodes ≡ roads.nodes
  pub wait : b.wait ≡ settings.wait
  pub closed : b.state.sealed ≡ None
