-- A book as the lock plays it: the calls in its journal, each with its reply and the batch that it sealed.
use Rattle.std.specs.Prelude.{◌≡◌, ℕ, false, List, [], ◌∷◌, All, Option, None, Some, option_map}
use Rattle.request_book.specs.values.Batch.{Batch}
use Rattle.request_book.specs.Points.{named_nodes}
use Rattle.request_book.specs.Book.{BookView, is_light, would_seal}
use Rattle.request_book.specs.Consistent.{IsNode}
use Rattle.request_book.specs.register.Step.{step}
use Rattle.request_book.specs.declared.values.command.Command.{Command}
use Rattle.request_book.specs.declared.values.command.Command.TheVariants.{Seal}
use Rattle.request_book.specs.declared.values.journal.Entry.{Entry}
use Rattle.request_book.specs.declared.values.reply.Reply.{Reply}
use Rattle.request_book.specs.declared.values.reply.Reply.TheVariants.{Sealed}
use Rattle.request_book.specs.declared.values.state.State.{State}
use Rattle.seat_lock.specs.declared.logged.LoggedCall.{LoggedCall}
use Rattle.dispatch_engine.specs.declared.lanes.locked.BookRoot.{BookRoot}
use Rattle.dispatch_engine.specs.declared.lanes.locked.LockedReply.{LockedReply}

-- the number of the batch that a reply says is sealed
abbrev pub sealed_by : Reply → Option ℕ
sealed_by (Sealed batch) = Some batch
sealed_by _ = None

-- the batch that a command would seal
abbrev pub snapshot_before : ℕ → State → Command → Option Batch
snapshot_before wait s (Seal now) = would_seal wait s now
snapshot_before wait s _ = None

-- the batch that stands sealed in the state after a reply which says so; none after any other reply
abbrev pub snapshot_after : Reply → State → Option Batch
snapshot_after (Sealed batch) s = s.sealed
snapshot_after _ s = None

-- an entry of the journal that leaves this state, as a call of its lane
abbrev pub call_of : State → Entry → LoggedCall Command LockedReply
call_of s e = record { lane = e.lane; call = e.command; reply = record { reply = e.reply; snapshot = snapshot_after e.reply s } }

-- a call as an entry of the journal
abbrev pub entry_of : LoggedCall Command LockedReply → Entry
entry_of c = record { lane = c.lane; command = c.call; reply = c.reply.reply }

-- the entries of a journal as calls, replayed from the state before them
unfoldable pub calls_from : List ℕ → ℕ → State → List Entry → List (LoggedCall Command LockedReply)
calls_from nodes wait s [] = []
calls_from nodes wait s (e ∷ es) =
    call_of (step nodes wait s e.command).0 e ∷ calls_from nodes wait (step nodes wait s e.command).0 es

-- the calls of a book's journal
abbrev pub log_of : BookView → List (LoggedCall Command LockedReply)
log_of b = calls_from b.nodes b.wait b.base b.entries

-- what no command changes
abbrev pub root_of : BookView → BookRoot
root_of b = record { nodes = b.nodes; wait = b.wait; first = b.first; base = b.base }

-- what a reply to a command shows
pub record Fits (nodes : List ℕ) (command : Command) (reply : LockedReply) : Type 0 where
  -- the batch of the number that the reply tells, and none where it tells none
  pub sealed : option_map (λ b. b.number) reply.snapshot ≡ sealed_by reply.reply
  -- it names only these nodes
  pub named : (b : Batch) → reply.snapshot ≡ Some b → All (IsNode nodes) (named_nodes b)
  -- only a seal has one
  pub seals : (b : Batch) → reply.snapshot ≡ Some b → is_light command ≡ false
