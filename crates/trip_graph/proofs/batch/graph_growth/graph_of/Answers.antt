use Rattle.std.proofs.Common.{◌≡◌, ℕ, ◌+◌, ◌<◌, ◌≤◌, List, ◌++◌, length, get_or, sym, ap, ◌∙◌, subst, arith, length-append}
use Rattle.trip_graph.proofs.Common.{get_or_default, point_count, travel_time, SettledVehicle, vehicle_at, no_vehicle, AreRowsUpTo, HoldRows, vehicle_rows}
use Rattle.trip_graph.proofs.batch.RowOrder.{none_in_order, more_in_order}
use Rattle.trip_graph.proofs.batch.GraphSteps as step
use Rattle.trip_graph.proofs.batch.GraphFaults as faults
use Rattle.trip_graph.proofs.Lists.{on_err}
use Rattle.trip_graph.proofs.batch.graph_growth.graph_of.Goals as goal

pub loop-vehicle-init : goal.loop-vehicle-init
loop-vehicle-init c =
    let most = c.args.settings.now.trip in
    let tau = travel_time c.args.times.now in
    record {
      exact = rw c.new-rows.ensures.items (step.rows_none most tau c.args.settled.now);
      order = rw c.new-rows.ensures.items none_in_order;
      hold = rw (c.new-rows.ensures.items, c.in_ok-held.ensures.items) (step.hold_none most tau c.args.settled.now);
      total = rw c.new-rows.ensures.items (sym (step.total_none c.args.levels.now));
    }

pub loop-vehicle-preserved : goal.loop-vehicle-preserved
loop-vehicle-preserved c =
    let most = c.args.settings.now.trip in
    let tau = travel_time c.args.times.now in
    let settled = c.args.settled.now in
    let levels = c.args.levels.now in
    let v = c.loop-vehicle.vehicle in
    let rows = c.loop-vehicle.rows.items in
    let inv = c.loop-vehicle.invariant in
    let few : most ≤ 6 = (let r = c.args.settings.now.in_range.trip_range.1 in omega arith) in
    let count = ap length c.as_slice-vehicles.ensures in
    let less : v < length settled.vehicles = (let t = c.loop-vehicle-test.true in omega arith) in
    let items : c.add_vehicle.new.rows.items ≡ rows ++ vehicle_rows levels v = c.in_ok-add_vehicle.ensures in
    let vehicle : c.index-vehicles-vehicle.result ≡ vehicle_at settled v =
    c.index-vehicles-vehicle.is ∙ ap (λ (l : List SettledVehicle). get_or l v c.index-vehicles-vehicle.result) c.as_slice-vehicles.ensures
    ∙ get_or_default settled.vehicles v c.index-vehicles-vehicle.result no_vehicle less in
    let from : c.len-from.result ≡ length rows = (let a = c.len-from.ensures in let b = c.loop-vehicle.rows.ok.0 in omega arith) in
    let found = step.finds_at most tau settled v c.len-from.result c.index-vehicles-vehicle.result c.deref.result.now (rows ++ vehicle_rows levels v)
    (length rows) c.held_row.result
    vehicle (c.deref.ensures.value ∙ items) from c.held_row.ensures in
    record {
      exact = rw items (step.rows_more most tau settled v levels rows c.requires.levels few less inv.exact);
      order = rw items (more_in_order tau settled v levels rows (step.some_of_levels most tau settled v levels c.requires.levels less) inv.exact.below
          inv.order);
      hold = rw (c.in_ok-push.ensures.items, items)
          (step.hold_more most tau settled (point_count c.args.times.now) v levels rows c.loop-vehicle.held.items c.held_row.result c.requires.levels few less
          (c.requires.sound.each v less) inv.exact inv.hold found);
      total = rw items (step.total_more most tau settled v levels rows c.requires.levels less inv.total);
    }

pub held_row-requires-clause-few : goal.held_row-requires-clause-few
held_row-requires-clause-few c =
    let tau = travel_time c.args.times.now in
    let levels = c.args.levels.now in
    let v = c.loop-vehicle.vehicle in
    let count = ap length c.as_slice-vehicles.ensures in
    let items = c.in_ok-add_vehicle.ensures in
    let total = step.total_more c.args.settings.now.trip tau c.args.settled.now v levels c.loop-vehicle.rows.items c.requires.levels
    (let t = c.loop-vehicle-test.true in omega arith) c.loop-vehicle.invariant.total in
    let long = ap length (c.deref.ensures.value ∙ items) in
    omega (arith, c.args.settings.now.in_range.pairs_range.1, c.requires.few, step.total_few levels (v + 1))

pub memory_of-requires : goal.memory_of-requires
memory_of-requires c =
    let most = c.args.settings.now.trip in
    let tau = travel_time c.args.times.now in
    let settled = c.args.settled.now in
    let inv = c.loop-vehicle.invariant in
    let rows = c.loop-vehicle.rows.items in
    let held = c.loop-vehicle.held.items in
    let vehicles = length c.as_slice-vehicles.result.now in
    let riders = length c.as_slice-riders.result.now in
    let count : vehicles ≡ length settled.vehicles = ap length c.as_slice-vehicles.ensures in
    let end = c.loop-vehicle.auto.vehicle-end in
    let stop = c.loop-vehicle-test.false in
    let e : c.loop-vehicle.vehicle ≡ length settled.vehicles = omega arith in
    faults.memory_only most (point_count c.args.times.now) tau settled c.sub_trips_are_servable.ensures.servable c.delays_are_small.ensures
    (let r = c.args.settings.now.in_range.trip_range.1 in omega arith) c.args.times.now.table.times c.requires.sound
    (record { vehicles = vehicles; riders = riders; penalty = c.args.settings.now.penalty; rows = rows; held = held }) count
    (ap length c.as_slice-riders.ensures)
    (subst (λ (n : ℕ). AreRowsUpTo most tau settled n rows) e inv.exact)
    (subst (λ (n : ℕ). HoldRows settled n rows held) e inv.hold)
    inv.order c.in-Err.fault c.in-Err.ensures.fault

pub new-requires : goal.new-requires
new-requires c =
    let range = c.args.settings.now.in_range in
    let few = step.total_few c.args.levels.now c.loop-vehicle.vehicle in
    let total = c.loop-vehicle.invariant.total in
    let bound = c.requires.few in
    record {
      vehicles = (let a = ap length c.as_slice-vehicles.ensures in let b = c.requires.sound.vehicle_count in omega arith);
      riders = (let a = ap length c.as_slice-riders.ensures in let b = c.requires.sound.rider_count in omega arith);
      penalty = (let a = range.penalty_most in omega arith);
      rows = (let a = range.pairs_range.1 in omega arith);
    }

pub returns-in-Ok : goal.returns-in-Ok
returns-in-Ok c =
    let settings = c.args.settings.now in
    let tau = travel_time c.args.times.now in
    let settled = c.args.settled.now in
    let inv = c.loop-vehicle.invariant in
    let rows = c.loop-vehicle.rows.items in
    let count : length c.as_slice-vehicles.result.now ≡ length settled.vehicles = ap length c.as_slice-vehicles.ensures in
    let end = c.loop-vehicle.auto.vehicle-end in
    let stop = c.loop-vehicle-test.false in
    let e : c.loop-vehicle.vehicle ≡ length settled.vehicles = omega arith in
    step.graph_right settings tau settled c.in-Ok.graph (length c.as_slice-vehicles.result.now) (length c.as_slice-riders.result.now) rows
    c.loop-vehicle.held.items
    c.in-Ok.ensures.value c.in-Ok.ensures.good count (ap length c.as_slice-riders.ensures)
    (subst (λ (n : ℕ). AreRowsUpTo settings.trip tau settled n rows) e inv.exact)
    (subst (λ (n : ℕ). HoldRows settled n rows c.loop-vehicle.held.items) e inv.hold)
    (omega (arith, c.requires.few, inv.total, step.total_few c.args.levels.now c.loop-vehicle.vehicle))

pub returns-in_err-add_vehicle : goal.returns-in_err-add_vehicle
returns-in_err-add_vehicle c = on_err c.from_residual-in_err-add_vehicle.result _ c.from_residual-in_err-add_vehicle.ensures.0

pub returns-in_err-push : goal.returns-in_err-push
returns-in_err-push c = on_err c.from_residual-in_err-push.result _ c.from_residual-in_err-push.ensures.0

pub held_row-requires-clause-from : goal.held_row-requires-clause-from
held_row-requires-clause-from c = omega (
  arith,
  c.len-from.ensures,
  c.loop-vehicle.rows.ok.0,
  ap length (c.deref.ensures.value ∙ c.in_ok-add_vehicle.ensures),
  length-append c.loop-vehicle.rows.items (vehicle_rows c.args.levels.now c.loop-vehicle.vehicle),
)
