use Rattle.std.proofs.Common.{ℕ, ◌≤◌, List, length, drop}
use Rattle.stop_orders.proofs.Common.{Stop, IsOrder, Completes}
use Rattle.stop_orders.proofs.task.order.is_order.Given as goal

-- the stops are an order exactly where the rest completes what is done
pub record Scans (riders passengers done : ℕ) (stops rest : List Stop) : Type 0 where
  pub few : riders ≤ 6
  pub seated : passengers ≤ 10
  pub to : IsOrder riders passengers stops → Completes riders passengers done rest
  pub from : Completes riders passengers done rest → IsOrder riders passengers stops

abbrev pub invariant-loop-stop : goal.invariant-loop-stop
invariant-loop-stop l = Scans (length l.task.riders.items) (length l.task.aboard.items) l.done l.stops (drop l.stop-index l.stops)
