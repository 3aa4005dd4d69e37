use Rattle.std.proofs.Common.{◌≡◌, ◌+◌, ◌*◌, ◌≤◌, length}
use Rattle.stop_orders.proofs.Common.{travel_time, sum_below, rider_late, passenger_late}
use Rattle.stop_orders.proofs.search.ahead.look_ahead.Given as goal

abbrev pub invariant-loop-i : goal.invariant-loop-i
invariant-loop-i l = (l.delay ≡ sum_below (rider_late (travel_time l.times) l.task l.label) l.i) × (l.delay ≤ l.i * 100000000000)

abbrev pub invariant-loop-j : goal.invariant-loop-j
invariant-loop-j l =
    (l.delay ≡ sum_below (rider_late (travel_time l.times) l.task l.label) (length l.task.riders.items) + sum_below
    (passenger_late (travel_time l.times) l.task l.label) l.j)
    × (l.delay ≤ 600000000000 + l.j * 100000000000)
