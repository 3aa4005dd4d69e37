use Rattle.std.proofs.Common.{◌≡◌, ℕ, ◌+◌, ◌<◌, true}
use Rattle.stop_orders.proofs.Common.{has}
use Rattle.stop_orders.proofs.task.done.Done.all_out.Given as goal

abbrev pub invariant-loop-j : goal.invariant-loop-j
invariant-loop-j l = (k : ℕ) → k < l.j → has l.self (12 + k) ≡ true
