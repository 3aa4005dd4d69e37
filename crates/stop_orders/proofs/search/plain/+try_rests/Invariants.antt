use Rattle.std.proofs.Common.{◌≡◌, ℕ, ◌<◌, ◌++◌, List, [], ◌∷◌, Option, length}
use Rattle.stop_orders.proofs.Common.{travel_time, Route, Stop, Task, bit_of, IsNextStop, with_stop, left_count, IsFound, StaysGood, AllTried}
use Rattle.stop_orders.proofs.search.plain.+try_rests.Given as goal

-- all next stops with a lower bit were tried
pub record NextTried (tau : ℕ → ℕ → ℕ) (task : Task) (done : ℕ) (path now : List Stop) (first best : Option Route) (k : ℕ) : Type 0 where
  pub same : now ≡ path
  pub found : IsFound tau task best
  pub kept : StaysGood first best
  pub tried : (s : Stop) → IsNextStop (length task.riders.items) (length task.aboard.items) done s → bit_of s < k →
      AllTried tau task (with_stop done s) (path ++ s ∷ []) best

abbrev pub invariant-loop-k : goal.invariant-loop-k
invariant-loop-k l = NextTried (travel_time l.times) l.task l.done l.fn.path.items l.path.items l.fn.best l.best l.k

abbrev pub decreases-try_rests : goal.decreases-try_rests
decreases-try_rests l = left_count (length l.task.now.riders.items) (length l.task.now.aboard.items) l.done
