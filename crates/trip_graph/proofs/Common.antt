-- The names that the proofs of this crate cite from elsewhere, passed on from one place. Declares nothing.
pub use Rattle.std.proofs.lemmas.Bool.{cases_lt, cases_order}
pub use Rattle.std.proofs.lemmas.List.{
  drop_all,
  flat_map_more,
  get_or-append_right,
  get_or-map,
  get_or_append_left,
  get_or_default,
  get_or_past,
  get_or_push,
  length-map,
  length_push,
  map-append,
  map_push,
  nil_from_length,
  take_more,
}
pub use Rattle.std.proofs.lemmas.List.Concat.{flat_map-cons, get_or-flat_map}
pub use Rattle.std.proofs.lemmas.List.Elements.{All-append, All-cons, All-nil, All-push, Contains-append_left, Contains-append_right, Contains-push}
pub use Rattle.std.proofs.lemmas.List.Sums.{sum_by-cons, sum_by-take-le, sum_by_push}
pub use Rattle.std.specs.List.{list_any}
pub use Rattle.plan_rules.specs.Graph.{Graph, choice_at, has_rider, no_row, riders_at, row_cmp, times_served}
pub use Rattle.plan_rules.specs.GraphFault.{HoldsRightly}
pub use Rattle.plan_rules.specs.GoodGraph.{IsGoodGraph}
pub use Rattle.plan_rules.specs.declared.row.TripRow.{TripRow}
pub use Rattle.pool_base.specs.Times.{point_count, travel_time}
pub use Rattle.pool_base.specs.TravelTime.{IsTravelTime}
pub use Rattle.stop_orders.specs.Laws.{DelaysAreSmall, SubTripsAreServable}
pub use Rattle.stop_orders.specs.task.Settled.{CanServe, IsRow, IsRrEdge, IsTrip, greatest, no_rider, pair_task, rider_at, trip_task, vehicle_at}
pub use Rattle.stop_orders.specs.lemmas.task.Named.{IsRvEdge, no_vehicle}
pub use Rattle.stop_orders.specs.task.Sound.{IsSound, IsSoundVehicle}
pub use Rattle.stop_orders.specs.task.Task.{IsLeastDelay, IsLeg, IsServable, IsTask, Serves, no_leg}
pub use Rattle.stop_orders.specs.declared.task.settled.Settled.{Settled}
pub use Rattle.stop_orders.specs.declared.task.settled_vehicle.SettledVehicle.{SettledVehicle}
pub use Rattle.stop_orders.specs.declared.task.task.Task.{Task}
pub use Rattle.trip_graph.specs.pairs.RvGraph.{IsRvGraph}
pub use Rattle.trip_graph.specs.lemmas.pairs.Edge.{no_edge, pair_of}
pub use Rattle.trip_graph.specs.declared.pairs.rv_edge.RvEdge.{RvEdge}
pub use Rattle.trip_graph.specs.batch.Answer.{HasMoreRows, IsRowWith, IsTripGraphOf}
pub use Rattle.trip_graph.specs.lemmas.batch.Rows.{HoldRows}
pub use Rattle.trip_graph.specs.work.batch.Edges.{HasOneRider, edges_upto, single_edge}
pub use Rattle.trip_graph.specs.work.batch.Growth.{batch_of, tau_of}
pub use Rattle.trip_graph.specs.work.batch.Levels.{AreLevels, AreLevelsUpTo, AreRowsUpTo, AreSomeLevels, HasMoreOfSize, level_total, row_total, total_upto}
pub use Rattle.trip_graph.specs.work.batch.Rows.{trip_row, vehicle_rows}
unfoldable pub use Rattle.trip_graph.specs.work.batch.Runs.{AreNext}
pub use Rattle.trip_graph.specs.work.batch.Runs.{AreEmpty, AreLevelsOf}
pub use Rattle.trip_graph.specs.vehicle.Rows.{AreAllRows, AreRowsOfSize, AreSomeRows, HasMoreThan, IsLevelOf, TakesSteps}
pub use Rattle.trip_graph.specs.vehicle.Trip.{ComesBefore, IsLower, IsRising, trips_of}
pub use Rattle.trip_graph.specs.declared.vehicle.trip_of.TripOf.{TripOf}
pub use Rattle.trip_graph.specs.work.vehicle.TripGrowth.{CostsLeast, costs, rider_count, serves, task_of_trip, task_with}
pub use Rattle.trip_graph.specs.work.vehicle.Level.{AreRowsWithin, HasMoreOfLevel, HasMoreWithin, IsBelow, IsLevel, IsLevelRow, IsLevelUpTo, IsTripRule}
pub use Rattle.trip_graph.specs.work.pairs.RrGraph.{IsRrGraphUpTo, IsTaskOfFirst}
pub use Rattle.trip_graph.specs.work.pairs.RvGraph.{IsRvGraphUpTo}
