use Rattle.std.proofs.Common.{◌-◌}
use Rattle.trip_graph.proofs.Common.{point_count, travel_time}
use Rattle.trip_graph.proofs.vehicle.AllRows.{below_of_rows, more_of_level}
use Rattle.trip_graph.proofs.vehicle.Rule.{rule_of, edge_of}
use Rattle.trip_graph.proofs.Lists.{on_err}
use Rattle.trip_graph.proofs.vehicle.level_growth.grow_level.Goals as goal

pub grow_size-requires-clause-can : goal.grow_size-requires-clause-can
grow_size-requires-clause-can g c =
    let points = point_count c.args.times.now in let tau = travel_time c.args.times.now in let settled = c.args.settled.now in
    record {
      sound = c.requires.sound;
      vehicle = c.requires.vehicle;
      rule = rule_of c.sub_trips_are_servable.ensures.servable points tau settled c.args.vehicle c.args.times.now.table.times c.requires.sound
          c.requires.vehicle;
      edges = λ a b s. c.requires.pairs a b (edge_of c.pairs_are_edges.ensures points tau settled c.args.vehicle c.args.times.now.table.times c.requires.sound
          c.requires.vehicle a b s);
    }

pub grow_size-requires-clause-below : goal.grow_size-requires-clause-below
grow_size-requires-clause-below g c =
    rw c.rows.ensures (below_of_rows (travel_time c.args.times.now) c.args.settled.now c.args.vehicle (c.args.level - 1) c.args.below.now c.requires.below)

pub returns-clause-level : goal.returns-clause-level
returns-clause-level g c =
    more_of_level (travel_time c.args.times.now) c.args.settled.now c.args.vehicle c.args.level c.args.room (rw c.if-all.false at c.in_ok-all.ensures.answer)

pub returns-in_err-all-clause-level : goal.returns-in_err-all-clause-level
returns-in_err-all-clause-level g c = on_err c.from_residual.result _ c.from_residual.ensures.0

pub returns-in_err-all-clause-steps : goal.returns-in_err-all-clause-steps
returns-in_err-all-clause-steps g c = rw c.rows.ensures at c.grow_size.ensures.steps

pub returns-then-all-clause-steps : goal.returns-then-all-clause-steps
returns-then-all-clause-steps g c = rw c.rows.ensures at c.grow_size.ensures.steps

pub returns-clause-steps : goal.returns-clause-steps
returns-clause-steps g c = rw c.rows.ensures at c.grow_size.ensures.steps
