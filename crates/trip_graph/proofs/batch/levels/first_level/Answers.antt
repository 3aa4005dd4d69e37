use Rattle.std.proofs.Common.{◌≡◌, ℕ, ◌+◌, length, sym, ap, ◌∙◌, subst, arith}
use Rattle.trip_graph.proofs.Common.{travel_time, AreLevelsUpTo}
use Rattle.trip_graph.proofs.batch.LevelSteps as step
use Rattle.trip_graph.proofs.batch.levels.first_level.Goals as goal

pub loop-vehicle-preserved : goal.loop-vehicle-preserved
loop-vehicle-preserved c =
    let tau = travel_time c.args.growth.now.times.now in
    let settled = c.args.growth.now.settled.now in
    let inv = c.loop-vehicle.invariant in
    let lists = c.loop-vehicle.lists.items in
    let trips = c.in_ok-trips.trips in
    let rows : c.rows.result.now ≡ trips = c.rows.ensures in
    let few = inv.few in
    record {
      level = rw c.in_ok-push.ensures.items (step.level_more tau settled 0 c.loop-vehicle.vehicle lists trips inv.level c.in_ok-trips.ensures);
      counted = rw (c.in_ok-push.ensures.items, rows) (ap (λ n. n + length trips) inv.counted ∙ sym (step.total_more lists trips));
      few = rw rows (omega (arith, step.few_empty tau settled c.loop-vehicle.vehicle trips c.in_ok-trips.ensures));
    }

pub returns : goal.returns
returns c =
    let tau = travel_time c.args.growth.now.times.now in
    let settled = c.args.growth.now.settled.now in
    let inv = c.loop-vehicle.invariant in
    let e : c.loop-vehicle.vehicle ≡ length settled.vehicles = omega (
      arith,
      c.loop-vehicle-test.false,
      c.loop-vehicle.auto.vehicle-end,
      ap length
          c.as_slice-count.ensures,
    ) in
    (subst (λ (n : ℕ). AreLevelsUpTo tau settled 0 n c.loop-vehicle.lists.items) e inv.level, inv.counted, omega (arith, inv.few, e))
