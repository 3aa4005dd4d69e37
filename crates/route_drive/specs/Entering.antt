-- What is on its way for a vehicle, and what is entered of it before a seal.
use Rattle.std.specs.Prelude.{◌≡◌, ◌⊎◌, ℕ, ◌+◌, ◌<◌, ◌≤◌, max, nat_lt, nat_le, ◌&&◌, if◌then◌else◌, List, [], ◌∷◌, ◌++◌, Option, None, Some, map, filter, Contains, fold}
use Rattle.std.specs.List.{Any, flat_map, list_any, zip}
use Rattle.pool_base.specs.TravelTime.{longest}
use Rattle.request_book.specs.declared.values.vehicle.Vehicle.{Vehicle}
use Rattle.request_book.specs.declared.values.command.Command.{Command}
use Rattle.request_book.specs.declared.values.command.Command.TheVariants.{Report, Pickup, Dropoff}
use Rattle.request_book.specs.declared.values.outcome.PlannedStop.{PlannedStop}
use Rattle.road_network.specs.Roads.{Roads, index_in}
use Rattle.road_network.specs.Walk.{HasNoWalk}
use Rattle.route_drive.specs.declared.course.Course.{Course}
use Rattle.route_drive.specs.declared.course.NodeAt.{NodeAt}
use Rattle.route_drive.specs.declared.course.Stay.{Stay}
use Rattle.route_drive.specs.declared.walk.WalkStep.{WalkStep}
use Rattle.route_drive.specs.Walk.{IsShortestWalk}

-- the stops whose second has come
abbrev pub due : ℕ → List PlannedStop → List PlannedStop
due now stops = filter (λ stop. nat_le stop.second now) stops

-- the stops whose second hasn't come
abbrev pub to_come : ℕ → List PlannedStop → List PlannedStop
to_come now stops = filter (λ stop. nat_lt now stop.second) stops

-- a stop, as a pickup or a drop-off at its second
abbrev pub stop_command : ℕ → PlannedStop → Command
stop_command vehicle stop = if stop.pick then Pickup vehicle stop.rider stop.second else Dropoff vehicle stop.rider stop.second

-- where a vehicle is after stops, when it came there, and from when on it can leave: after a dwell
abbrev pub standing_after : ℕ → Stay → List PlannedStop → Stay
standing_after dwell at stops = fold (λ _ stop. record { node = stop.node; second = stop.second; free = stop.second + dwell }) at stops

-- where it goes: to its next stop; without one to the rider whom its move names
abbrev pub goal_of : Option ℕ → List PlannedStop → Option ℕ
goal_of target [] = target
goal_of target (stop ∷ stops) = Some stop.node

-- the steps that lead a vehicle from a node to its goal: those of a shortest walk; none without a goal, and none where no walk leads there
abbrev pub IsWay : Roads → ℕ → Option ℕ → List WalkStep → Type 0
IsWay roads from None steps = steps ≡ []
IsWay roads from (Some to) steps =
    IsShortestWalk roads from to steps
    ⊎ ((steps ≡ []) × (Contains roads.nodes from → Contains roads.nodes to → HasNoWalk roads.arcs (index_in roads.nodes from) (index_in roads.nodes to)))

-- where a vehicle is that leaves a node at a second on these steps: at the first that it comes to at now or later, while one is later than now; else at the last, by now
abbrev pub reached_by : ℕ → ℕ → ℕ → List WalkStep → NodeAt
reached_by now free node [] = record { node = node; second = max now free }
reached_by now free node (step ∷ steps) =
    if nat_le now (free + step.seconds) && list_any (λ s. nat_lt now (free + s.seconds)) (step ∷ steps) then record { node = step.node; second = free + step.seconds } else reached_by now free step.node steps

-- where a vehicle is reported at a seal: on its way to its goal; where it can't leave before the seal it has no way yet
pub record IsReported (roads : Roads) (now : ℕ) (at : Stay) (goal : Option ℕ) (there : NodeAt) : Type 0 where
  pub steps : List WalkStep
  pub way : IsWay roads at.node (if nat_lt now at.free then None else goal) steps
  pub is : there ≡ reached_by now at.free at.node steps

-- what is entered of a vehicle before a seal: its stops that are due, each at its second, and where it is then
pub record IsEntered (roads : Roads) (dwell now : ℕ) (v : Vehicle) (course : Course) (commands : List Command) : Type 0 where
  pub there : NodeAt
  pub reported : IsReported roads now
      (standing_after dwell (record { node = v.node; second = v.time; free = v.time }) (due now course.stops.items))
      (goal_of course.target (to_come now course.stops.items)) there
  pub told : commands ≡ map (stop_command v.id) (due now course.stops.items) ++ Report v.id there.node there.second ∷ []

-- what is entered of all vehicles, one after the other
abbrev pub AreEntered : Roads → ℕ → ℕ → List Vehicle → List Course → List Command → Type 0
AreEntered roads dwell now [] courses commands = commands ≡ []
AreEntered roads dwell now vehicles [] commands = commands ≡ []
AreEntered roads dwell now (v ∷ vehicles) (c ∷ courses) commands =
    (own : List Command) × (rest : List Command) × IsEntered roads dwell now v c own × AreEntered roads dwell now vehicles courses rest × (commands ≡ own ++ rest)

-- the second of what is entered
abbrev pub second_of : Command → ℕ
second_of (Report vehicle node time) = time
second_of (Pickup vehicle rider time) = time
second_of (Dropoff vehicle rider time) = time
second_of _ = 0

-- something of a second above 1,000,000,000 is entered of one of the vehicles
abbrev pub EntersTooLate : Roads → ℕ → ℕ → List Vehicle → List Course → Type 0
EntersTooLate roads dwell now [] courses = ⊥
EntersTooLate roads dwell now vehicles [] = ⊥
EntersTooLate roads dwell now (v ∷ vehicles) (c ∷ courses) =
    ((own : List Command) × IsEntered roads dwell now v c own × Any (λ c. longest < second_of c) own) ⊎ EntersTooLate roads dwell now vehicles courses

-- the stops that are left, by vehicle
abbrev pub left_commands : List Vehicle → List Course → List Command
left_commands vehicles courses = flat_map (λ p. map (stop_command p.0.id) p.1.stops.items) (zip vehicles courses)
