-- The points of a good plan, in the order in which they are asked.
use Rattle.std.specs.Prelude.{◌≡◌, ℕ, not, List, Option, length, map, filter}
use Rattle.std.specs.List.{AllZip, range_with_len}
use Rattle.assignment_search.specs.Found.{ShowsBound, IsClose, IsFair, IsBestNear}
use Rattle.trip_graph.specs.declared.pairs.rv_edge.RvEdge.{RvEdge}
use Rattle.plan_rules.specs.Graph.{Graph}
use Rattle.plan_rules.specs.Plan.{IsPlan, IsLawful, cost_of}
use Rattle.request_book.specs.declared.values.outcome.Planned.{Planned}
use Rattle.rider_limits.specs.declared.settings.Settings.{Settings}
use Rattle.stop_orders.specs.task.Settled.{vehicle_at}
use Rattle.stop_orders.specs.declared.task.settled.Settled.{Settled}
use Rattle.dispatch_engine.specs.outcome.Told.{rider_id, left_riders}
use Rattle.dispatch_engine.specs.outcome.Trips.{IsTripOf, IsLate}
use Rattle.dispatch_engine.specs.outcome.Moves.{AreMoves, idle_vehicles}
use Rattle.dispatch_engine.specs.declared.outcome.point.Point.{Point}
use Rattle.dispatch_engine.specs.declared.outcome.point.Point.TheVariants as point

-- what a batch poses: its nodes, travel times, limits and trip graph, and the edges between vehicles and riders and between riders
pub record Posed : Type 0 where
  pub points : List ℕ
  pub tau : ℕ → ℕ → ℕ
  pub settled : Settled
  pub graph : Graph
  pub edges : List RvEdge
  pub pairs : List (ℕ × ℕ)

-- each vehicle that isn't late has a trip, that of the row of its own that a plan gives it, and this holds of the plan
pub record GivesPlanWith (p : Posed) (planned : Planned) (P : List (Option ℕ) → Type 0) : Type 0 where
  pub chosen : List (Option ℕ)
  pub plan : IsPlan p.graph chosen
  pub trips : AllZip (IsTripOf p.points p.tau p.settled p.graph chosen) (filter (λ v. not (vehicle_at p.settled v).late) (range_with_len 0 (length p.settled.vehicles))) planned.chosen
  pub holds : P chosen

-- the point holds of a plan of a batch that poses this; that there is a plan at all is the first point
abbrev pub Holds : Settings → Point → Planned → Posed → Type 0
Holds settings point.Answer planned p = Unit {0}
Holds settings point.Graphs planned p =
    (planned.lapsed ≡ map (λ r. r.id) (filter (λ r. r.lapsed) p.settled.riders))
    × (planned.rv ≡ map (λ edge. ((vehicle_at p.settled edge.vehicle).id, rider_id p.settled edge.rider)) p.edges)
    × (planned.rr ≡ map (λ (pair : ℕ × ℕ). (rider_id p.settled pair.0, rider_id p.settled pair.1)) p.pairs)
    × (planned.rows ≡ map (λ row. record { vehicle = (vehicle_at p.settled row.vehicle).id; riders = record { items = map (rider_id p.settled) row.riders.items }; cost = row.cost }) p.graph.rows)
Holds settings point.Late planned p =
    AllZip (IsLate p.points p.tau p.settled) (filter (λ v. (vehicle_at p.settled v).late) (range_with_len 0 (length p.settled.vehicles))) planned.late
Holds settings point.Trips planned p = GivesPlanWith p planned (λ chosen. Unit {0})
Holds settings point.Plan planned p =
    GivesPlanWith p planned (λ chosen. IsLawful p.graph chosen × (planned.cost ≡ cost_of p.graph chosen) × (planned.left ≡ map (rider_id p.settled) (left_riders p.graph chosen)))
Holds settings point.Bound planned p = ShowsBound p.graph settings.budget planned.bound planned.tree
Holds settings point.Tree planned p = IsClose p.graph settings.budget planned.cost planned.bound planned.tree × IsFair p.graph planned.bound planned.tree
Holds settings point.Best planned p = GivesPlanWith p planned (λ chosen. IsBestNear p.graph chosen)
Holds settings point.Moves planned p = GivesPlanWith p planned (λ chosen. AreMoves p.tau p.settled (idle_vehicles p.settled p.graph chosen) (left_riders p.graph chosen) planned.moves)
