use Rattle.stop_orders.proofs.Common.{point_count, travel_time, left_count, task_riders, task_passengers, labels_of}
use Rattle.stop_orders.proofs.search.CostLemmas.{PricesAll}
use Rattle.stop_orders.proofs.search.cost.+try_costs.Given as goal

abbrev pub invariant-loop-person : goal.invariant-loop-person
invariant-loop-person l = PricesAll (point_count l.times) (travel_time l.times) l.task l.label l.person l.fn.best l.best (labels_of l.store)

abbrev pub decreases-try_costs : goal.decreases-try_costs
decreases-try_costs l = left_count (task_riders l.task.now) (task_passengers l.task.now) l.label.now.done
