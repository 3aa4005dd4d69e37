-- What lanes know of the book that they share.
use Rattle.std.specs.Prelude.{◌≡◌, ℕ, ◌+◌, ◌<◌, ◌≤◌, ◌==◌, List, [], ◌∷◌, ◌++◌, length, All, Option, slice_index_or, sum_by, count_by, nat_lt, if◌then◌else◌}
use Rattle.request_book.specs.values.Batch.{Batch}
use Rattle.request_book.specs.Book.{BookView}
use Rattle.request_book.specs.Replay.{state_after, RepliesAreSteps}
use Rattle.request_book.specs.declared.values.command.Command.{Command}
use Rattle.request_book.specs.declared.values.journal.Entry.{Entry}
use Rattle.request_book.specs.declared.values.reply.Reply.{Reply}
use Rattle.seat_lock.specs.Values.{PassValue, calls_of, entry}
use Rattle.dispatch_engine.specs.declared.lanes.locked.LockedReply.{LockedReply}
use Rattle.dispatch_engine.specs.declared.lanes.shared.Receipt.{Receipt}
use Rattle.dispatch_engine.specs.lanes.Locked.{calls_from, Fits}

-- what contracts see of a pass to a shared book
abbrev pub BookPass : Type 0
BookPass = PassValue BookView Command LockedReply

-- a reply with the batch that was sealed
abbrev pub with_snapshot : Reply → Option Batch → LockedReply
with_snapshot reply snapshot = record { reply = reply; snapshot = snapshot }

-- the pass has this command and reply at this position as its last call, after all that it had seen
pub record HasCalled (nodes : List ℕ) (old : BookPass) (command : Command) (position : ℕ) (reply : LockedReply) (new : BookPass) : Type 0 where
  pub calls : new.calls ≡ old.calls ++ (position, entry old.lane command reply) ∷ []
  pub after : old.seen ≤ position
  pub seen : new.seen ≡ position + 1
  pub fits : Fits nodes command reply

-- the same of a receipt, which doesn't show the batch
pub record HasCalledSome (nodes : List ℕ) (old : BookPass) (command : Command) (receipt : Receipt) (new : BookPass) : Type 0 where
  pub snapshot : Option Batch
  pub called : HasCalled nodes old command receipt.position (with_snapshot receipt.reply snapshot) new

-- the pass has no new call
abbrev pub IsSamePass : BookPass → BookPass → Type 0
IsSamePass old new = (new.calls ≡ old.calls) × (old.seen ≤ new.seen)

-- the book after all calls of these passes, in one history
pub record IsFinished (start : BookView) (passes : List BookPass) (book : BookView) : Type 0 where
  pub nodes : book.nodes ≡ start.nodes
  pub wait : book.wait ≡ start.wait
  pub first : book.first ≡ start.first
  pub base : book.base ≡ start.base
  -- the entries since the start; each reply is the step's
  pub since : List Entry
  pub entries : book.entries ≡ start.entries ++ since
  pub replies : RepliesAreSteps start.nodes start.wait start.state since
  pub state : book.state ≡ state_after start.nodes start.wait start.state since
  -- cut to each lane, they are that pass's calls with their replies and sealed batches, at their positions
  pub cut : (k : ℕ) (d : BookPass) → k < length passes → (slice_index_or passes k d).calls ≡ calls_of k (calls_from start.nodes start.wait start.state since)
  -- each is of one of the lanes, and each number below their count is the position of one call
  pub lanes : All (λ e. e.lane < length passes) since
  pub once : (n : ℕ) → sum_by (λ p. count_by (λ c. c.0 == n) p.calls) passes ≡ (if nat_lt n (length since) then 1 else 0)
