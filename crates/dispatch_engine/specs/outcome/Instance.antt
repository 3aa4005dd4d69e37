-- A batch whose limits are settled, and its graphs, as `Instance` and `Graphs` hold them.
use Rattle.trip_graph.specs.pairs.RrGraph.{IsRrGraph}
use Rattle.trip_graph.specs.pairs.RvGraph.{IsRvGraph}
use Rattle.pool_base.specs.Times.{point_count, travel_time}
use Rattle.stop_orders.specs.task.Sound.{IsSound}
use Rattle.trip_graph.specs.batch.Answer.{IsTripGraphOf}
use Rattle.dispatch_engine.specs.outcome.Points.{Posed}
use Rattle.dispatch_engine.specs.declared.outcome.instance.Graphs.{Graphs}
use Rattle.dispatch_engine.specs.declared.outcome.instance.Instance.{Instance}

-- the limits are sound for trips of as many riders as the settings allow
abbrev pub HasSoundLimits : Instance → Type 0
HasSoundLimits instance = IsSound instance.settings.now.trip (point_count instance.times.now) (travel_time instance.times.now) instance.settled.now

-- what the batch poses
abbrev pub posed_by : Graphs → Posed
posed_by graphs = record {
  points = graphs.instance.now.points.now;
  tau = travel_time graphs.instance.now.times.now;
  settled = graphs.instance.now.settled.now;
  graph = graphs.graph.now;
  edges = graphs.rv.now;
  pairs = graphs.rr.now;
}

-- the limits are sound, and the graphs are those of the batch
pub record AreExact (graphs : Graphs) : Type 0 where
  pub sound : HasSoundLimits graphs.instance.now
  pub exact : IsTripGraphOf graphs.instance.now.settings.now (travel_time graphs.instance.now.times.now) graphs.instance.now.settled.now graphs.graph.now
  pub edges_exact : IsRvGraph (travel_time graphs.instance.now.times.now) graphs.instance.now.settled.now graphs.rv.now
  pub pairs_exact : IsRrGraph (travel_time graphs.instance.now.times.now) graphs.instance.now.settled.now graphs.rr.now
