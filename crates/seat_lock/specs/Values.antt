-- What contracts see of a lock and of its passes.
use Rattle.std.specs.Prelude.{◌≡◌, ℕ, ◌<◌, ◌==◌, List, [], ◌++◌, length, Option, Some, All, filter, slice_index_or, sum_by, count_by, nat_lt, if◌then◌else◌}
use Rattle.std.specs.List.{enumerate_from}
use Rattle.atomic_table.specs.Seated.{TableId}
use Rattle.seat_lock.specs.declared.logged.LoggedCall.{LoggedCall}

-- a lock: its table, the value that it was started with, and how many lanes it has
pub record LockValue (B : Type 0) : Type 0 where
  pub table : TableId
  pub start : B
  pub lanes : ℕ

-- a pass: its lock's table and opening value, its lane, the calls that it made, each with its position, and how much of the log it has seen
pub record PassValue (B C R : Type 0) : Type 0 where
  pub table : TableId
  pub start : Option B
  pub lane : ℕ
  pub calls : List (ℕ × LoggedCall C R)
  pub seen : ℕ

-- the entries of one lane in a log, each with its position
abbrev pub calls_of : {C R : Type 0} → ℕ → List (LoggedCall C R) → List (ℕ × LoggedCall C R)
calls_of lane log = filter (λ p. p.1.lane == lane) (enumerate_from 0 log)

-- a call of a lane with its reply
abbrev pub entry : {C R : Type 0} → ℕ → C → R → LoggedCall C R
entry lane call reply = record { lane = lane; call = call; reply = reply }

module _ {B C R : Type 0} where
  -- the pass is of this lock
  abbrev pub IsPassOf : LockValue B → PassValue B C R → Type 0
  IsPassOf lock p = (p.table ≡ lock.table) × (p.start ≡ Some lock.start)

  -- the pass has made no call and seen no entry
  abbrev pub IsNew : PassValue B C R → Type 0
  IsNew p = (p.calls ≡ []) × (p.seen ≡ 0)

  -- all passes of the lock, by rising lane
  pub record AreAllPasses (lock : LockValue B) (passes : List (PassValue B C R)) : Type 0 where
    pub len : length passes ≡ lock.lanes
    pub own : All (IsPassOf lock) passes
    pub lanes : (k : ℕ) (d : PassValue B C R) → k < length passes → (slice_index_or passes k d).lane ≡ k

  -- what a log has gained is the calls of these passes: cut to each lane, it is that pass's calls with their replies, at their positions.
  -- Each entry is of one of the lanes, and each number below the length is the position of one call
  pub record GainsCalls (before after : List (LoggedCall C R)) (passes : List (PassValue B C R)) : Type 0 where
    pub since : List (LoggedCall C R)
    pub gained : after ≡ before ++ since
    pub cut : (k : ℕ) (d : PassValue B C R) → k < length passes → (slice_index_or passes k d).calls ≡ calls_of k since
    pub lanes : All (λ e. e.lane < length passes) since
    pub once : (n : ℕ) → sum_by (λ p. count_by (λ c. c.0 == n) p.calls) passes ≡ (if nat_lt n (length since) then 1 else 0)
