use Rattle.std.proofs.Common.{arith, length}
use Rattle.trip_graph.proofs.Common.{serves, costs, rider_count}
use Rattle.trip_graph.proofs.vehicle.RowGrowth.{begun_at, ended_at}
use Rattle.trip_graph.proofs.Lists.{steps_within, steps_next}
use Rattle.trip_graph.specs.work.vehicle.TripGrowth.{rider_count}
use Rattle.trip_graph.proofs.vehicle.row_growth.grow_rows.Goals as goal

pub loop-row-init : goal.loop-row-init
loop-row-init g c =
    let growth = c.args.growth.now in
    record {
      upto = rw c.requires.none (begun_at (rider_count growth) (serves growth) (costs growth) c.requires.can.rule c.args.size c.args.rows.now c.requires.below);
      room = rw c.requires.none (omega arith);
      cost = omega arith;
    }

pub returns-clause-answer : goal.returns-clause-answer
returns-clause-answer g c =
    let growth = c.args.growth.now in (
      ended_at (rider_count growth) (serves growth) (costs growth) c.requires.can.rule c.args.size c.args.rows.now c.requires.below
          c.loop-row.growing.found.items c.loop-row.row (omega arith) c.loop-row.invariant.upto,
      c.loop-row.invariant.room,
    )

pub returns-in_err-grow_row-clause-steps : goal.returns-in_err-grow_row-clause-steps
returns-in_err-grow_row-clause-steps g c = steps_within c.loop-row.row (length c.args.rows.now) (rider_count c.args.growth.now) c.args.steps.now
    c.loop-row.steps c.grow_row.new.steps c.loop-row-test.true c.loop-row.invariant.cost c.grow_row.ensures.steps

pub returns-then-not-branch-clause-answer : goal.returns-then-not-branch-clause-answer
returns-then-not-branch-clause-answer g c = rw c.if-not-branch.true at c.in_ok-grow_row.ensures.answer

pub returns-then-not-branch-clause-steps : goal.returns-then-not-branch-clause-steps
returns-then-not-branch-clause-steps g c = steps_within c.loop-row.row (length c.args.rows.now) (rider_count c.args.growth.now) c.args.steps.now
    c.loop-row.steps c.grow_row.new.steps c.loop-row-test.true c.loop-row.invariant.cost c.grow_row.ensures.steps

pub loop-row-preserved : goal.loop-row-preserved
loop-row-preserved g c =
    let went = rw c.if-not-branch.false at c.in_ok-grow_row.ensures.answer in
    record {
      upto = went.0;
      room = went.1;
      cost = steps_next c.loop-row.row (rider_count c.args.growth.now) c.args.steps.now c.loop-row.steps
          c.grow_row.new.steps c.loop-row.invariant.cost c.grow_row.ensures.steps;
    }
