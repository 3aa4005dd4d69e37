-- When the outcome of a batch is good.
use Rattle.std.specs.Prelude.{◌≡◌, ℕ, List, map}
use Rattle.request_book.specs.values.Batch.{Batch}
use Rattle.request_book.specs.Points.{ArePoints}
use Rattle.trip_graph.specs.pairs.RrGraph.{IsRrGraph}
use Rattle.trip_graph.specs.pairs.RvGraph.{IsRvGraph}
use Rattle.trip_graph.specs.declared.pairs.rv_edge.RvEdge.{RvEdge}
use Rattle.plan_rules.specs.Graph.{Graph}
use Rattle.pool_base.specs.Times.{travel_time}
use Rattle.pool_base.specs.declared.times.Times.{Times}
use Rattle.dispatch_engine.specs.limits.Settling.{IsSettled}
use Rattle.request_book.specs.declared.values.outcome.Answer.{Answer}
use Rattle.request_book.specs.declared.values.outcome.Outcome.{Outcome}
use Rattle.request_book.specs.declared.values.outcome.Planned.{Planned}
use Rattle.rider_limits.specs.declared.settings.Settings.{Settings}
use Rattle.road_network.specs.Roads.{Roads, index_in}
use Rattle.stop_orders.specs.declared.task.settled.Settled.{Settled}
use Rattle.travel_times.specs.table.Table.{AreTravelTimes}
use Rattle.trip_graph.specs.batch.Answer.{IsTripGraphOf, HasMoreRows}
use Rattle.dispatch_engine.specs.outcome.Points.{Posed, Holds}
use Rattle.dispatch_engine.specs.declared.outcome.point.Point.{Point}
use Rattle.request_book.specs.declared.values.outcome.Answer.TheVariants as answer

-- these limits have a trip graph and edges, and this holds of what is so posed
pub record HasGraphsWith (settings : Settings) (points : List ℕ) (tau : ℕ → ℕ → ℕ) (settled : Settled) (P : Posed → Type 0) : Type 0 where
  pub graph : Graph
  pub edges : List RvEdge
  pub pairs : List (ℕ × ℕ)
  pub exact : IsTripGraphOf settings tau settled graph
  pub edges_exact : IsRvGraph tau settled edges
  pub pairs_exact : IsRrGraph tau settled pairs
  pub holds : P (record { points = points; tau = tau; settled = settled; graph = graph; edges = edges; pairs = pairs })

-- a plan of which this holds; or an overflow where there are more rows than the settings allow
abbrev pub AnswersWith : Settings → List ℕ → (ℕ → ℕ → ℕ) → Settled → (Planned → Posed → Type 0) → Answer → Type 0
AnswersWith settings points tau settled P answer.Overflow = HasMoreRows tau settled settings.trip settings.pairs
AnswersWith settings points tau settled P (answer.Planned planned) = HasGraphsWith settings points tau settled (P planned)

-- the outcome tells who expired, and answers what the batch poses, with a plan of which this holds
pub record IsOutcomeWith (settings : Settings) (roads : Roads) (batch : Batch) (P : Planned → Posed → Type 0) (outcome : Outcome) : Type 0 where
  pub points : List ℕ
  pub times : Times
  pub settled : Settled
  -- the batch's nodes, the travel times between them on the network, and the limits that follow from them
  pub nodes : ArePoints batch points
  pub table : AreTravelTimes roads.arcs (map (index_in roads.nodes) points) times
  pub limits : IsSettled settings points (travel_time times) batch settled
  pub expired : outcome.expired ≡ batch.expired
  pub answer : AnswersWith settings points (travel_time times) settled P outcome.answer

-- each point holds of the plan
abbrev pub IsGoodPlan : Settings → Planned → Posed → Type 0
IsGoodPlan settings planned p = (q : Point) → Holds settings q planned p

-- the outcome is good: each point holds, the graphs exact, an order of stops for each trip, the plan lawful, a bound on every
-- lawful plan, shown by a tree, and best moves of idle vehicles
abbrev pub IsGoodOutcome : Settings → Roads → Batch → Outcome → Type 0
IsGoodOutcome settings roads batch outcome = IsOutcomeWith settings roads batch (IsGoodPlan settings) outcome
