-- The one plan of an outcome.
use Rattle.std.specs.Prelude.{◌≡◌, ℕ, List, Option, map}
use Rattle.assignment_search.specs.Found.{IsBestNear}
use Rattle.dispatch_engine.specs.outcome.Moves.{AreMoves, idle_vehicles}
use Rattle.dispatch_engine.specs.outcome.Points.{Posed}
use Rattle.dispatch_engine.specs.outcome.Told.{left_riders, rider_id}
use Rattle.dispatch_engine.specs.outcome.Trips.{AreTrips}
use Rattle.plan_rules.specs.Plan.{IsPlan, IsLawful, cost_of}
use Rattle.request_book.specs.declared.values.outcome.Planned.{Planned}

-- one plan alone gives the trips. It is lawful, costs what is told, leaves out whom it is told to and is best near, and the
-- moves are for its idle vehicles
pub record HasOnePlan (planned : Planned) (p : Posed) : Type 0 where
  pub chosen : List (Option ℕ)
  pub lawful : IsLawful p.graph chosen
  pub trips : AreTrips p.points p.tau p.settled p.graph chosen planned.chosen
  pub only : (other : List (Option ℕ)) → IsPlan p.graph other → AreTrips p.points p.tau p.settled p.graph other planned.chosen → other ≡ chosen
  pub cost : planned.cost ≡ cost_of p.graph chosen
  pub left : planned.left ≡ map (rider_id p.settled) (left_riders p.graph chosen)
  pub best : IsBestNear p.graph chosen
  pub moves : AreMoves p.tau p.settled (idle_vehicles p.settled p.graph chosen) (left_riders p.graph chosen) planned.moves
