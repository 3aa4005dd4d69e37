-- The lines of a closed batch.
use Rattle.std.specs.Prelude.{ℕ, List, [], ◌∷◌, ◌++◌, None, Some, codes, map, length, slice_get, unwrap_or, option_map, if◌then◌else◌, Bool}
use Rattle.std.specs.List.{flat_map}
use Rattle.dispatch_report.specs.Words.{numbered, signed, spaced}
use Rattle.dispatch_report.specs.declared.block_line.BlockLine.{BlockLine}
use Rattle.dispatch_report.specs.declared.block_line.BlockLine.TheVariants.{Batch, Expired, Overflow, Lapsed, Late, Alone, Shared, TripRow, Trip, Out, Move, Cost, Bound, Nodes, Branch, Leaf, Dead, End}
use Rattle.plan_rules.specs.declared.node.Node.{Node}
use Rattle.plan_rules.specs.declared.node.Node.TheVariants as node
use Rattle.request_book.specs.declared.values.outcome.Answer.{Answer}
use Rattle.request_book.specs.declared.values.outcome.Answer.TheVariants as answer
use Rattle.request_book.specs.declared.values.outcome.ChosenTrip.{ChosenTrip}
use Rattle.request_book.specs.declared.values.outcome.LateVehicle.{LateVehicle}
use Rattle.request_book.specs.declared.values.outcome.Outcome.{Outcome}
use Rattle.request_book.specs.declared.values.outcome.PlannedStop.{PlannedStop}
use Rattle.request_book.specs.declared.values.outcome.TripRowLine.{TripRowLine}

-- one stop: what happens, to whom, where and when
abbrev pub stop_text : PlannedStop → List ℕ
stop_text stop = numbered (if stop.pick then codes " pick:" else codes " drop:") stop.rider ++ numbered (codes "@") stop.node ++ numbered (codes ":") stop.second

-- a word and the ids of two
abbrev pub pair_line : List ℕ → ℕ × ℕ → List ℕ
pair_line words pair = numbered words pair.0 ++ spaced pair.1

-- the bytes of a line, without its end: a late vehicle's tells its passengers' least delay and the order of its stops, or
-- `none`, a vehicle-trip pair's the least delay and the riders, a chosen trip's its delay and its stops, and a move's the
-- vehicle, the rider to whom it is sent, and the seconds of its way
abbrev pub block_line_text : BlockLine → List ℕ
block_line_text (Batch n) = numbered (codes "batch ") n
block_line_text (Expired rider) = numbered (codes "expired ") rider
block_line_text Overflow = codes "overflow"
block_line_text (Lapsed rider) = numbered (codes "lapsed ") rider
block_line_text (Late late) =
    numbered (codes "late ") late.vehicle
    ++ elim late.stops [ None ↦ codes " none" | Some stops ↦ spaced late.delay ++ flat_map stop_text stops ]
block_line_text (Alone pair) = pair_line (codes "rv ") pair
block_line_text (Shared pair) = pair_line (codes "rr ") pair
block_line_text (TripRow row) = numbered (codes "row ") row.vehicle ++ spaced row.cost ++ flat_map spaced row.riders
block_line_text (Trip trip) = numbered (codes "trip ") trip.vehicle ++ spaced trip.cost ++ flat_map stop_text trip.stops
block_line_text (Out rider) = numbered (codes "out ") rider
block_line_text (Move m) = numbered (codes "move ") m.vehicle ++ spaced m.rider ++ spaced m.seconds
block_line_text (Cost n) = numbered (codes "cost ") n
block_line_text (Bound z) = signed (codes "bound ") z
block_line_text (Nodes n) = numbered (codes "nodes ") n
block_line_text (Branch branch) = pair_line (codes "branch ") branch
block_line_text (Leaf multipliers) = codes "leaf" ++ flat_map (signed (codes " ")) multipliers
block_line_text Dead = codes "dead"
block_line_text End = codes "end"

-- the line of a vehicle-trip pair
abbrev pub row_as_line : TripRowLine → BlockLine
row_as_line row = TripRow (record { vehicle = row.vehicle; cost = row.cost; riders = row.riders.items })

-- the line of a chosen trip
abbrev pub trip_as_line : ChosenTrip → BlockLine
trip_as_line trip = Trip (record { vehicle = trip.vehicle; cost = trip.cost; stops = trip.stops.items })

-- the line of a late vehicle
abbrev pub late_as_line : LateVehicle → BlockLine
late_as_line late = Late (record { vehicle = late.vehicle; delay = late.delay; stops = option_map (λ s. s.items) late.stops })

-- the line of a node of the tree that shows the bound: a branch tells a row of this block by its vehicle and its number
abbrev pub tree_line : List TripRowLine → Node → BlockLine
tree_line rows (node.Branch vehicle row) = Branch (unwrap_or (option_map (λ r. r.vehicle) (slice_get rows row)) 0, row)
tree_line rows (node.Leaf multipliers) = Leaf multipliers
tree_line rows node.Dead = Dead

-- what came of a batch: the graphs, the plan, its cost and bound and the size of the tree, and where it is asked for
-- the tree; or that there were too many rows
abbrev pub lines_of_answer : Bool → Answer → List BlockLine
lines_of_answer proof answer.Overflow = Overflow ∷ []
lines_of_answer proof (answer.Planned plan) =
    (map Lapsed plan.lapsed ++ map late_as_line plan.late ++ map Alone plan.rv ++ map Shared plan.rr ++ map row_as_line plan.rows)
    ++ (map trip_as_line plan.chosen ++ map Out plan.left ++ map Move plan.moves)
    ++ ((Cost plan.cost ∷ []) ++ (Bound plan.bound ∷ []) ++ (Nodes (length plan.tree) ∷ []))
    ++ (if proof then map (tree_line plan.rows) plan.tree else [])

-- the block of a batch: its number, whose wait ran out, and what came of it
abbrev pub lines_of : Bool → ℕ → Outcome → List BlockLine
lines_of proof batch outcome = (Batch batch ∷ []) ++ map Expired outcome.expired ++ lines_of_answer proof outcome.answer ++ (End ∷ [])

-- the bytes of its lines
abbrev pub block_lines : Bool → ℕ → Outcome → List (List ℕ)
block_lines proof batch outcome = map block_line_text (lines_of proof batch outcome)
