use Rattle.std.proofs.Common.{take}
use Rattle.stop_orders.proofs.Common.{point_count, travel_time, left_count, task_riders, task_passengers, labels_of}
use Rattle.stop_orders.proofs.search.SearchLemmas.{TriesAll}
use Rattle.stop_orders.proofs.search.search.+try_all.Given as goal

abbrev pub invariant-loop-candidate : goal.invariant-loop-candidate
invariant-loop-candidate l = TriesAll (point_count l.times) (travel_time l.times) l.task l.label l.fn.path.items l.path.items l.fn.best l.best
    (labels_of l.store) (take l.candidate-index l.candidate-items)

abbrev pub decreases-try_all : goal.decreases-try_all
decreases-try_all l = left_count (task_riders l.task.now) (task_passengers l.task.now) l.label.now.done
