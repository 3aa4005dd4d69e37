-- The outcome as which a block is judged, and what no outcome can tell.
use Rattle.std.specs.Prelude.{◌≡◌, ℕ, ◌==◌, ◌≤◌, ◌-◌, ◌^◌, min, List, [], length, map, nat_le, IfSome, if◌then◌else◌, option_map, unwrap_or, slice_get}
use Rattle.std.specs.List.{All, position_or_len}
use Rattle.plan_rules.specs.declared.node.Node.{Node}
use Rattle.plan_rules.specs.declared.node.Node.TheVariants as node
use Rattle.dispatch_engine.specs.declared.outcome.point.Point.{Point}
use Rattle.dispatch_engine.specs.declared.outcome.point.Point.TheVariants as point
use Rattle.dispatch_report.specs.declared.block_line.BlockLine.{BlockLine}
use Rattle.dispatch_report.specs.declared.block_line.BlockLine.TheVariants.{Branch, Leaf}
use Rattle.dispatch_report.specs.declared.block_line.LateText.{LateText}
use Rattle.dispatch_report.specs.declared.block_line.TripRowText.{TripRowText}
use Rattle.dispatch_report.specs.declared.block_line.TripText.{TripText}
use Rattle.request_book.specs.declared.values.outcome.Answer.{Answer}
use Rattle.request_book.specs.declared.values.outcome.Answer.TheVariants.{Overflow, Planned as Plan}
use Rattle.request_book.specs.declared.values.outcome.ChosenTrip.{ChosenTrip}
use Rattle.request_book.specs.declared.values.outcome.LateVehicle.{LateVehicle}
use Rattle.request_book.specs.declared.values.outcome.Outcome.{Outcome}
use Rattle.request_book.specs.declared.values.outcome.Planned.{Planned}
use Rattle.request_book.specs.declared.values.outcome.TripRowLine.{TripRowLine}
use Rattle.report_audit.specs.block.BlockLists.{BlockLists}

-- a list of at most so many, and nothing in place of a longer one
abbrev pub at_most : {X : Type 0} → ℕ → List X → List X
at_most most items = if nat_le (length items) most then items else []

-- a row, as one of at most six riders
abbrev pub row_of : TripRowText → TripRowLine
row_of row = record { vehicle = row.vehicle; riders = record { items = at_most 6 row.riders }; cost = row.cost }

-- a chosen trip, as one of at most 22 stops
abbrev pub trip_of : TripText → ChosenTrip
trip_of trip = record { vehicle = trip.vehicle; cost = trip.cost; stops = record { items = at_most 22 trip.stops } }

-- a late vehicle, as one of at most ten stops
abbrev pub late_of : LateText → LateVehicle
late_of late = record { vehicle = late.vehicle; delay = late.delay; stops = option_map (λ stops. record { items = at_most 10 stops }) late.stops }

-- the first place of an id among others, or their number; counted up to the greatest number of 32 bits
abbrev pub number_among : List ℕ → ℕ → ℕ
number_among ids id = min (position_or_len (λ other. other == id) ids) (2 ^ 32 - 1)

-- a node of a tree, by its line; a vehicle is numbered in the order of these ids
abbrev pub node_of : List ℕ → BlockLine → Node
node_of ids (Branch branch) = node.Branch (number_among ids branch.0) branch.1
node_of ids (Leaf multipliers) = node.Leaf multipliers
node_of ids _ = node.Dead

-- the plan as which what is told is judged
abbrev pub judged_plan : List ℕ → BlockLists → Planned
judged_plan ids t = record {
  lapsed = t.lapsed;
  late = map late_of t.late;
  rv = t.rv;
  rr = t.rr;
  rows = map row_of t.rows;
  chosen = map trip_of t.chosen;
  left = t.left;
  moves = t.moves;
  cost = t.cost;
  bound = t.bound;
  tree = map (node_of ids) t.tree;
}

-- the outcome as which what is told is judged
abbrev pub judged_outcome : List ℕ → BlockLists → Outcome
judged_outcome ids t = record { expired = t.expired; answer = if t.overflow then Overflow else Plan (judged_plan ids t) }

-- a branch tells the vehicle of the row line that it names
abbrev pub NamesRow : List TripRowText → BlockLine → Type 0
NamesRow rows (Branch branch) = unwrap_or (option_map (λ row. row.vehicle) (slice_get rows branch.1)) 0 ≡ branch.0
NamesRow rows _ = Unit {0}

-- what a point asks of the lines themselves: no row has more riders than a trip, no late vehicle and no chosen trip more
-- stops than there can be, and `nodes` is the number of the tree's lines, whose branches name row lines of their vehicles
abbrev pub CanBeTold : Point → BlockLists → Type 0
CanBeTold point.Graphs t = All (λ row. length row.riders ≤ 6) t.rows
CanBeTold point.Late t = All (λ late. IfSome late.stops (λ stops. length stops ≤ 10)) t.late
CanBeTold point.Trips t = All (λ trip. length trip.stops ≤ 22) t.chosen
CanBeTold point.Bound t = (t.nodes ≡ length t.tree) × All (NamesRow t.rows) t.tree
CanBeTold _ t = Unit {0}

-- no row has more riders than a trip
abbrev pub HasTrips : Answer → Type 0
HasTrips Overflow = Unit {0}
HasTrips (Plan plan) = All (λ row. length row.riders.items ≤ 6) plan.rows
