use Rattle.std.proofs.Common.{subst, sym, refl, None, arith, All}
use Rattle.stop_orders.proofs.Common.{point_count, travel_time, left_count, free_seats, task_riders, task_passengers, IsSmallLabel, labels_of, IsLabelDone}
use Rattle.stop_orders.proofs.search.LabelLemmas.{routable, small_first}
use Rattle.stop_orders.proofs.search.CostLemmas.{never_first, priced_least, priced_none}
use Rattle.stop_orders.proofs.search.SearchLemmas.{on_err}
use Rattle.stop_orders.proofs.search.cost.least_cost_with.Goals as goal

pub returns-in_default-clause-none : goal.returns-in_default-clause-none
returns-in_default-clause-none g c =
    let points = point_count c.args.times.now in
    let valid = routable points c.args.task.now c.requires.valid in
    never_first points (travel_time c.args.times.now) c.args.times.now.table.times c.args.task.now valid c.first_label_of-label.result
    c.first_label_of-label.ensures c.in_default.ensures.none

pub try_costs-requires-clause-small : goal.try_costs-requires-clause-small
try_costs-requires-clause-small g c =
    let points = point_count c.args.times.now in
    let task = c.args.task.now in
    let valid = routable points task c.requires.valid in
    subst (λ l. IsSmallLabel points (left_count (task_riders task) (task_passengers task) l.done) l) (sym c.first_label_of-label.ensures)
    (small_first points (travel_time c.args.times.now) c.args.times.now.table.times task valid 0 (free_seats task) refl refl)

pub returns-clause-least : goal.returns-clause-least
returns-clause-least g c =
    let points = point_count c.args.times.now in
    let valid = routable points c.args.task.now c.requires.valid in
    priced_least points (travel_time c.args.times.now) c.args.times.now.table.times c.args.task.now valid c.first_label_of-label.result c.try_costs.new.best
    (labels_of c.try_costs.new.store) c.first_label_of-label.ensures c.in_ok-try_costs.ensures

pub returns-clause-none : goal.returns-clause-none
returns-clause-none g c =
    let points = point_count c.args.times.now in
    let valid = routable points c.args.task.now c.requires.valid in
    priced_none points (travel_time c.args.times.now) c.args.times.now.table.times c.args.task.now valid c.first_label_of-label.result c.try_costs.new.best
    (labels_of c.try_costs.new.store) c.first_label_of-label.ensures c.in_ok-try_costs.ensures

pub look_ahead-requires-clause-valid : goal.look_ahead-requires-clause-valid
look_ahead-requires-clause-valid g c = routable (point_count c.args.times.now) c.args.task.now c.requires.valid

pub try_costs-requires-clause-valid : goal.try_costs-requires-clause-valid
try_costs-requires-clause-valid g c = routable (point_count c.args.times.now) c.args.task.now c.requires.valid

pub try_costs-requires-clause-settled : goal.try_costs-requires-clause-settled
try_costs-requires-clause-settled g c = subst (λ labels. All (IsLabelDone (point_count c.args.times.now) (travel_time c.args.times.now) c.args.task.now None)
    labels) (sym c.in_ok-begin.ensures) (λ k d h. absurd (omega (arith, h)))

pub returns-in_err-try_costs-clause-least : goal.returns-in_err-try_costs-clause-least
returns-in_err-try_costs-clause-least g c = on_err c.from_residual-in_err-try_costs.result _ c.from_residual-in_err-try_costs.ensures.0

pub returns-in_err-try_costs-clause-none : goal.returns-in_err-try_costs-clause-none
returns-in_err-try_costs-clause-none g c = on_err c.from_residual-in_err-try_costs.result _ c.from_residual-in_err-try_costs.ensures.0
