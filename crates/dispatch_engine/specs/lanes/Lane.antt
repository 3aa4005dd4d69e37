-- What a lane did: its commands, each once, in their order, and the closes of the batches that it sealed.
use Rattle.std.specs.Prelude.{◌≡◌, ℕ, ◌≤◌, ◌==◌, List, [], ◌∷◌, ◌++◌, Option, None, Some, IfSome, All, filter, map}
use Rattle.request_book.specs.values.Batch.{Batch}
use Rattle.dispatch_engine.specs.outcome.Outcome.{IsGoodOutcome}
use Rattle.request_book.specs.values.Command.{closed_outcome}
use Rattle.request_book.specs.register.Step.{step}
use Rattle.request_book.specs.declared.values.command.Command.{Command}
use Rattle.request_book.specs.declared.values.command.Command.TheVariants.{Close}
use Rattle.request_book.specs.declared.values.journal.Entry.{Entry}
use Rattle.request_book.specs.declared.values.reply.Reply.{Reply}
use Rattle.request_book.specs.declared.values.state.State.{State}
use Rattle.rider_limits.specs.declared.settings.Settings.{Settings}
use Rattle.road_network.specs.Roads.{Roads}
use Rattle.seat_lock.specs.declared.logged.LoggedCall.{LoggedCall}
use Rattle.dispatch_engine.specs.declared.lanes.locked.LockedReply.{LockedReply}
use Rattle.dispatch_engine.specs.lanes.Locked.{entry_of, sealed_by}
use Rattle.dispatch_engine.specs.lanes.Shared.{BookPass}

-- the entries of a lane, in their order
abbrev pub of_lane : ℕ → List Entry → List Entry
of_lane lane entries = filter (λ e. e.lane == lane) entries

-- the command closes this batch
abbrev pub IsCloseOf : ℕ → Command → Type 0
IsCloseOf batch (Close closed outcome) = closed ≡ batch
IsCloseOf batch _ = ⊥

-- a run of commands, where a batch of this number, if any, is to be closed first
abbrev pub IsLaneRunFrom : Option ℕ → List Command → List Entry → Type 0
IsLaneRunFrom None [] [] = Unit {0}
IsLaneRunFrom None (c ∷ cs) (e ∷ es) = (e.command ≡ c) × IsLaneRunFrom (sealed_by e.reply) cs es
IsLaneRunFrom (Some batch) cs (e ∷ es) = IsCloseOf batch e.command × IsLaneRunFrom None cs es
IsLaneRunFrom _ _ _ = ⊥

-- the entries are the lane's commands, each once, in their order; after each seal that was answered with a batch
-- comes at once the close of that batch; and nothing else
abbrev pub IsLaneRun : List Command → List Entry → Type 0
IsLaneRun commands entries = IsLaneRunFrom None commands entries

-- the entries are a beginning of such a run: with some others after them they are one
abbrev pub IsLaneBeginning : List Command → List Entry → Type 0
IsLaneBeginning commands entries = (rest : List Entry) × IsLaneRun commands (entries ++ rest)

-- the batch that was sealed last, after a reply
abbrev pub last_sealed : Option Batch → Option Batch → Option Batch
last_sealed last None = last
last_sealed last (Some b) = Some b

-- the pass has gained these calls: they stand behind all that it had seen, and it has seen no less
pub record HasGained (more : List (ℕ × LoggedCall Command LockedReply)) (old new : BookPass) : Type 0 where
  pub calls : new.calls ≡ old.calls ++ more
  pub behind : All (λ c. old.seen ≤ c.0) more
  pub seen : old.seen ≤ new.seen

module _ (settings : Settings) (roads : Roads) where
  -- where a close was answered `closed`, its outcome is good for the batch that is sealed in the state before it
  abbrev pub IsGoodClose : State → Command → Reply → Type 0
  IsGoodClose s command reply = IfSome (closed_outcome command reply) (λ closed. (b : Batch) × (s.sealed ≡ Some b) × IsGoodOutcome settings roads b closed.1)

  -- every close is good in the state that the entries before it leave
  unfoldable pub ClosesAreGood : State → List Entry → Type 0
  ClosesAreGood s [] = Unit {0}
  ClosesAreGood s (e ∷ es) = IsGoodClose s e.command e.reply × ClosesAreGood (step roads.nodes settings.wait s e.command).0 es

  -- a close has an outcome that is good for the batch that was sealed last
  abbrev pub IsGoodFor : Option Batch → Command → Type 0
  IsGoodFor last (Close batch outcome) = (b : Batch) × (last ≡ Some b) × IsGoodOutcome settings roads b outcome
  IsGoodFor last _ = Unit {0}

  -- each close among a lane's calls has an outcome that is good for the batch that the lane itself sealed last before it
  abbrev pub LaneClosesAreGood : Option Batch → List (LoggedCall Command LockedReply) → Type 0
  LaneClosesAreGood last [] = Unit {0}
  LaneClosesAreGood last (c ∷ cs) = IsGoodFor last c.call × LaneClosesAreGood (last_sealed last c.reply.snapshot) cs

  -- the pass has gained calls whose entries are so, with good closes
  pub record HasRun (Are : List Entry → Type 0) (old new : BookPass) : Type 0 where
    pub more : List (ℕ × LoggedCall Command LockedReply)
    pub gained : HasGained more old new
    pub run : Are (map (λ c. entry_of c.1) more)
    pub closes : LaneClosesAreGood None (map (λ c. c.1) more)
