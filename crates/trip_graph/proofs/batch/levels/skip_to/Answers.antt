use Rattle.std.proofs.Common.{◌≡◌, ℕ, ◌+◌, ◌<◌, [], length, subst, arith}
use Rattle.trip_graph.proofs.Common.{point_count, batch_of, tau_of, AreLevelsUpTo}
use Rattle.trip_graph.proofs.batch.LevelSteps as step
use Rattle.trip_graph.proofs.batch.levels.skip_to.Goals as goal

pub loop-vehicle-preserved : goal.loop-vehicle-preserved
loop-vehicle-preserved c =
    let run = c.args.run.now in
    let settled = batch_of run.growth.now in
    let inv = c.loop-vehicle.invariant in
    let can = c.requires.can in
    let total = can.rows.total in
    let within = c.requires.within in
    let from = c.loop-vehicle.auto._vehicle in
    let test = c.loop-vehicle-test.true in
    let none = c.new.ensures in
    let v = c.loop-vehicle._vehicle in
    let lists = c.loop-vehicle.lists.items in
    let lt : v < length settled.vehicles = omega arith in
    let more = step.total_more lists [] in
    let same = inv.total in
    record {
      level = rw (c.in_ok-push.ensures.items, none) (step.level_skip (tau_of run.growth.now) settled c.sub_trips_are_servable.ensures.servable
          (point_count run.growth.now.times.now) run.size v run.below.now lists
          run.growth.now.times.now.table.times can.can.sound can.rows lt (c.requires.empty v (omega arith) (omega arith)) inv.level);
      total = rw (c.in_ok-push.ensures.items, none) (omega arith);
      end = omega arith;
    }

pub returns-clause-level : goal.returns-clause-level
returns-clause-level c =
    let run = c.args.run.now in
    let inv = c.loop-vehicle.invariant in
    let e : c.loop-vehicle._vehicle ≡ c.args.end = omega (arith, inv.end, c.loop-vehicle-test.false) in
    subst (λ (n : ℕ). AreLevelsUpTo (tau_of run.growth.now) (batch_of run.growth.now) (run.size + 1) n c.loop-vehicle.lists.items) e inv.level
