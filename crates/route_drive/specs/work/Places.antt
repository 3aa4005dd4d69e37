-- Where vehicles are at a seal, and what is entered of them.
use Rattle.std.specs.Prelude.{ℕ, List, [], ◌∷◌, ◌++◌, map}
use Rattle.std.specs.List.{AllZip, flat_map, zip}
use Rattle.request_book.specs.declared.values.vehicle.Vehicle.{Vehicle}
use Rattle.request_book.specs.declared.values.command.Command.{Command}
use Rattle.request_book.specs.declared.values.command.Command.TheVariants.{Report}
use Rattle.road_network.specs.Roads.{Roads}
use Rattle.route_drive.specs.declared.course.Course.{Course}
use Rattle.route_drive.specs.declared.course.Heading.{Heading}
use Rattle.route_drive.specs.declared.course.NodeAt.{NodeAt}
use Rattle.route_drive.specs.Entering.{IsReported, due, goal_of, standing_after, stop_command, to_come}
use Rattle.route_drive.specs.work.Drive.{reported_place}

-- where a vehicle stands when its due stops are done, and where it goes from there
abbrev pub heading_of : ℕ → ℕ → Vehicle → Course → Heading
heading_of dwell now v c = record { from = standing_after dwell (reported_place v) (due now c.stops.items); goal = goal_of c.target (to_come now c.stops.items) }

-- the same of all vehicles, one after the other
abbrev pub headings_of : ℕ → ℕ → List Vehicle → List Course → List Heading
headings_of dwell now vehicles courses = map (λ p. heading_of dwell now p.0 p.1) (zip vehicles courses)

-- a vehicle that heads so is reported there
abbrev pub IsPlaced : Roads → ℕ → Heading → NodeAt → Type 0
IsPlaced roads now heading there = IsReported roads now heading.from heading.goal there

-- all vehicles are reported there
abbrev pub ArePlaced : Roads → ℕ → ℕ → List Vehicle → List Course → List NodeAt → Type 0
ArePlaced roads dwell now vehicles courses places = AllZip (IsPlaced roads now) (headings_of dwell now vehicles courses) places

-- what is entered of a vehicle that is reported there
abbrev pub told_of : ℕ → ℕ → Course → NodeAt → List Command
told_of now vehicle course there = map (stop_command vehicle) (due now course.stops.items) ++ Report vehicle there.node there.second ∷ []

-- what is entered of all vehicles
abbrev pub told_by : ℕ → List Vehicle → List Course → List NodeAt → List Command
told_by now vehicles courses places = flat_map (λ p. told_of now p.0.0.id p.0.1 p.1) (zip (zip vehicles courses) places)
