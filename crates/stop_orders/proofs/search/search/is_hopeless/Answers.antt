use Rattle.stop_orders.proofs.Common.{point_count, travel_time, labels_of}
use Rattle.stop_orders.proofs.search.SearchLemmas.{exhausted_none, exhausted_bound, exhausted_dominated}
use Rattle.stop_orders.proofs.search.search.is_hopeless.Goals as goal

pub returns-in_default : goal.returns-in_default
returns-in_default c = λ yes.
    exhausted_none (point_count c.args.times.now) (travel_time c.args.times.now) c.args.times.now.table.times c.args.task.now c.requires.valid c.args.label.now
    c.args.best.now c.in_default.ensures.none

pub returns-then-not-is_better : goal.returns-then-not-is_better
returns-then-not-is_better c = λ yes.
    exhausted_bound (point_count c.args.times.now) (travel_time c.args.times.now) c.args.times.now.table.times c.args.task.now c.requires.valid c.args.label.now
    c.args.best.now c.in-Some.ahead c.in-Some.ensures.bound (c.is_better.ensures.0 c.if-not-is_better.true)

pub returns-then-is_of_use : goal.returns-then-is_of_use
returns-then-is_of_use c = λ yes.
    exhausted_dominated (point_count c.args.times.now) (travel_time c.args.times.now) c.args.times.now.table.times c.args.task.now c.requires.valid
    c.args.label.now c.args.best.now (labels_of c.args.store.now) (c.dominates.ensures yes) c.requires.settled
