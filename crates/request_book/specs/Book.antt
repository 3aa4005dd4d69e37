use Rattle.std.specs.Prelude.{◌≡◌, ℕ, ◌+◌, ◌-◌, ◌^◌, Bool, true, false, List, [], ◌∷◌, ◌++◌, length, min, Option, None, Ok, Err}
use Rattle.request_book.specs.values.Batch.{Batch}
use Rattle.request_book.specs.declared.values.vehicle.Vehicle.{Vehicle}
use Rattle.request_book.specs.declared.values.command.Command.{Command}
use Rattle.request_book.specs.declared.values.command.Command.TheVariants.{Seal}
use Rattle.request_book.specs.declared.values.journal.Entry.{Entry}
use Rattle.request_book.specs.declared.values.reply.Reply.{Reply}
use Rattle.request_book.specs.declared.values.state.State.{State}
use Rattle.request_book.specs.Consistent.{IsConsistent, NamesNodes}
use Rattle.request_book.specs.Replay.{state_after, RepliesAreSteps}
use Rattle.request_book.specs.register.Step.{step, seal}

-- what a book tells
pub record BookView : Type 0 where
  -- the nodes of the network, and the longest wait in seconds
  pub nodes : List ℕ
  pub wait : ℕ
  -- the journal: the position of its first entry, the state before it, its entries
  pub first : ℕ
  pub base : State
  pub entries : List Entry
  -- the state after it
  pub state : State
  -- how many commands other than a seal are sure to need no memory
  pub spare : ℕ

-- what every book keeps
pub record IsBook (b : BookView) : Type 0 where
  -- the state is the step run over the entries from the base, each reply being the step's
  pub replies : RepliesAreSteps b.nodes b.wait b.base b.entries
  pub state : b.state ≡ state_after b.nodes b.wait b.base b.entries
  -- passengers and statuses agree, and no vehicle has more persons than seats, before the journal and after it
  pub base_consistent : IsConsistent b.base
  pub consistent : IsConsistent b.state
  -- its nodes hold every node that the state names
  pub base_named : NamesNodes b.nodes b.base
  pub named : NamesNodes b.nodes b.state

-- the state with which a run begins
abbrev pub opening : List Vehicle → State
opening vehicles = record { riders = []; vehicles = vehicles; last_seal = None; sealed = None; batches = 0 }

-- the position of the next entry; it stands still at the greatest u64
abbrev pub next_position : ℕ → List Entry → ℕ
next_position first entries = min (first + length entries) (2 ^ 64 - 1)

-- every command but a seal
abbrev pub is_light : Command → Bool
is_light (Seal now) = false
is_light _ = true

-- the batch that a seal would put into `sealed`; none where the step refuses the seal
abbrev pub would_seal : ℕ → State → ℕ → Option Batch
would_seal wait s now = elim (seal wait s now) [ Ok next ↦ next.sealed | Err refusal ↦ None ]

-- nothing but the room has changed
pub record IsSameBook (old new : BookView) : Type 0 where
  pub nodes : new.nodes ≡ old.nodes
  pub wait : new.wait ≡ old.wait
  pub first : new.first ≡ old.first
  pub base : new.base ≡ old.base
  pub entries : new.entries ≡ old.entries
  pub state : new.state ≡ old.state

-- the command was taken: its entry stands last, with the step's reply, and the state is the step's
pub record IsApplied (old : BookView) (lane : ℕ) (command : Command) (reply : Reply) (new : BookView) : Type 0 where
  pub stepped : (new.state, reply) ≡ step old.nodes old.wait old.state command
  pub entries : new.entries ≡ old.entries ++ (record { lane = lane; command = command; reply = reply }) ∷ []
  pub nodes : new.nodes ≡ old.nodes
  pub wait : new.wait ≡ old.wait
  pub first : new.first ≡ old.first
  pub base : new.base ≡ old.base
