use Rattle.std.specs.Prelude.{◌≡◌, ℕ, List, Option, map, filter}
use Rattle.request_book.specs.declared.values.outcome.Planned.{Planned}
use Rattle.stop_orders.specs.task.Settled.{vehicle_at}
use Rattle.dispatch_engine.specs.outcome.Points.{Posed}
use Rattle.dispatch_engine.specs.outcome.Told.{rider_id, trip_row_line, left_riders}
use Rattle.dispatch_engine.specs.outcome.Trips.{AreTrips, AreLate}
use Rattle.dispatch_engine.specs.outcome.Moves.{AreMoves, idle_vehicles}

-- the lists of a plan that chooses these rows of what a batch poses
pub record AreLists (p : Posed) (chosen : List (Option ℕ)) (planned : Planned) : Type 0 where
  pub lapsed : planned.lapsed ≡ map (λ r. r.id) (filter (λ r. r.lapsed) p.settled.riders)
  pub rv : planned.rv ≡ map (λ edge. ((vehicle_at p.settled edge.vehicle).id, rider_id p.settled edge.rider)) p.edges
  pub rr : planned.rr ≡ map (λ (pair : ℕ × ℕ). (rider_id p.settled pair.0, rider_id p.settled pair.1)) p.pairs
  pub rows : planned.rows ≡ map (trip_row_line p.settled) p.graph.rows
  pub late : AreLate p.points p.tau p.settled planned.late
  pub trips : AreTrips p.points p.tau p.settled p.graph chosen planned.chosen
  pub left : planned.left ≡ map (rider_id p.settled) (left_riders p.graph chosen)
  pub moves : AreMoves p.tau p.settled (idle_vehicles p.settled p.graph chosen) (left_riders p.graph chosen) planned.moves
