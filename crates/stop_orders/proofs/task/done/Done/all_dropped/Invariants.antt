use Rattle.std.proofs.Common.{◌≡◌, ℕ, ◌+◌, ◌<◌, true}
use Rattle.stop_orders.proofs.Common.{has}
use Rattle.stop_orders.proofs.task.done.Done.all_dropped.Given as goal

abbrev pub invariant-loop-i : goal.invariant-loop-i
invariant-loop-i l = (k : ℕ) → k < l.i → has l.self (6 + k) ≡ true
