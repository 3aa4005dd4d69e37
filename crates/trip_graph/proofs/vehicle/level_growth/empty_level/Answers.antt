use Rattle.std.proofs.Common.{[], ◌∷◌, length, sym, subst, arith}
use Rattle.trip_graph.proofs.Common.{point_count, travel_time, Task, IsTask, AreRowsOfSize, IsServable, IsLeastDelay, CanServe, CostsLeast, TripOf}
use Rattle.trip_graph.proofs.vehicle.RowGrowth.{no_riders, row_of}
use Rattle.trip_graph.proofs.vehicle.AllRows.{no_rows, rows_of_level}
use Rattle.trip_graph.proofs.vehicle.Joined.{level_of_empty}
use Rattle.trip_graph.proofs.vehicle.level_growth.empty_level.Goals as goal

pub returns-clause-rows : goal.returns-clause-rows
returns-clause-rows g c =
    let Serves = CanServe 6 (travel_time c.args.times.now) c.args.settled.now c.args.vehicle in
    let Costs = CostsLeast (travel_time c.args.times.now) c.args.settled.now c.args.vehicle in
    let least : Costs [] c.in-Some.cost = subst (λ (t : Task). IsLeastDelay (travel_time c.args.times.now) t c.in-Some.cost) c.task_of-task.ensures
    (rw c.in-Some.is at c.in_ok-cost.ensures.least) in
    let served : Serves [] = record {
      vehicle = c.requires.vehicle;
      riders = no_riders (length c.args.settled.now.riders);
      size = omega arith;
      servable = (least.stops, least.serves);
    } in
    let row : TripOf = record { riders = c.new-2.result; cost = c.in-Some.cost } in
    rw (c.of.ensures, c.in_ok-push.ensures.items, c.new-rows.ensures.items)
    (rows_of_level (travel_time c.args.times.now) c.args.settled.now c.args.vehicle 0 (row ∷ [])
    (level_of_empty Serves Costs row c.new-2.ensures (row_of Serves Costs [] row c.new-2.ensures served least)))

pub least_cost_with-requires : goal.least_cost_with-requires
least_cost_with-requires g c = record {
  valid = subst (IsTask (point_count c.args.times.now)) (sym c.task_of-task.ensures)
      ((c.requires.sound.each c.args.vehicle c.requires.vehicle).tasks [] (no_riders (length c.args.settled.now.riders)) (omega arith));
}

pub task_of-task-requires-clause-trip : goal.task_of-task-requires-clause-trip
task_of-task-requires-clause-trip g c = no_riders (length c.args.settled.now.riders)

pub returns-in_default-clause-rows : goal.returns-in_default-clause-rows
returns-in_default-clause-rows g c =
    let tau = travel_time c.args.times.now in
    let none = rw c.in_default.is at c.in_ok-cost.ensures.none in
    subst (AreRowsOfSize tau c.args.settled.now c.args.vehicle 0) (sym c.new.ensures)
    (no_rows tau c.args.settled.now c.args.vehicle (λ s. none (subst (IsServable tau) (sym c.task_of-task.ensures) s)))
