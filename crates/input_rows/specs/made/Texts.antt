use Rattle.std.specs.Prelude.{ℕ, ◌+◌, ◌-◌, ◌*◌, ◌%◌, List, [], ◌∷◌, ◌++◌, nat_lt, if◌then◌else◌}
use Rattle.std.specs.List.{flat_map}
use Rattle.pool_base.specs.Header.{network_header, fleet_header, script_header}
use Rattle.rand_core.specs.Stream.{Stream}
use Rattle.rand_core.specs.Steps.{stream_of}
use Rattle.rand_xoshiro.specs.SplitMix64.{splitmix_steps}
use Rattle.rider_limits.specs.declared.load_shape.LoadShape.{LoadShape}
use Rattle.input_rows.specs.declared.made.row.Field.{Field}
use Rattle.input_rows.specs.declared.made.row.Field.TheVariants.{Number, Report, Submit, Seal, Empty}
use Rattle.input_rows.specs.made.MadeRow.{csv_line}
use Rattle.input_rows.specs.made.Part.{draw, Part, plain, both, each}

-- the id of the node in a row and a column of a square, both from 0
abbrev pub node_id : ℕ → ℕ → ℕ → ℕ
node_id side i j = i * side + j + 1

-- a node of the square that is drawn, and the draws that are left
unfoldable pub drawn_node : ℕ → Stream → ℕ × Stream
drawn_node side s = (1 + (draw (side * side) s).0, (draw (side * side) s).1)

-- two arcs of one drawn time, there and back
unfoldable pub arcs_between : ℕ → ℕ → Part
arcs_between a b s =
    let time = draw 41 s in
    ((Number a ∷ Number b ∷ Number (20 + time.0) ∷ []) ∷ (Number b ∷ Number a ∷ Number (20 + time.0) ∷ []) ∷ [], time.1)

-- a vehicle of four seats at a drawn node
unfoldable pub vehicle_row : LoadShape → ℕ → Part
vehicle_row shape v s =
    let node = drawn_node shape.side s in
    ((Number v ∷ Number 4 ∷ Number node.0 ∷ Number 0 ∷ []) ∷ [], node.1)

-- a vehicle is reported at a drawn node
unfoldable pub report_row : LoadShape → ℕ → ℕ → Part
report_row shape k v s =
    let node = drawn_node shape.side s in
    ((Number (2 * k) ∷ Number 0 ∷ Report ∷ Number v ∷ Number node.0 ∷ Number (60 * k) ∷ Empty ∷ []) ∷ [], node.1)

-- a request between two drawn nodes, which are not the same, at a drawn second; the second node is drawn among the others
unfoldable pub submit_row : LoadShape → ℕ → ℕ → Part
submit_row shape k m s =
    let origin = drawn_node shape.side s in
    let other = draw (shape.side * shape.side - 1) origin.1 in
    let second = draw 60 other.1 in
    let end = if nat_lt (1 + other.0) origin.0 then 1 + other.0 else 1 + other.0 + 1 in
    ((Number (2 * k) ∷ Number (1 + m % 3) ∷ Submit ∷ Number (k * shape.riders + m) ∷ Number origin.0 ∷ Number end ∷ Number (60 * k + second.0) ∷ []) ∷ [], second.1)

-- the rows of a batch: reports of the vehicles, from 1, but before the first; requests, from 1; the seal
unfoldable pub batch_rows : LoadShape → ℕ → Part
batch_rows shape k =
    let reports : Part = if nat_lt 0 k then each (λ n. report_row shape k (n + 1)) shape.vehicles else plain [] in
    let submits : Part = each (λ n. submit_row shape k (n + 1)) shape.riders in
    let seal : List Field = Number (2 * k + 1) ∷ Number 0 ∷ Seal ∷ Number (60 * (k + 1)) ∷ Empty ∷ Empty ∷ Empty ∷ [] in
    both reports (both submits (plain (seal ∷ [])))

-- three texts
pub record Texts : Type 0 where
  pub network : List ℕ
  pub fleet : List ℕ
  pub script : List ℕ

-- the texts of a made workload, each a header line and its rows, by the draws of a SplitMix64 generator with its seed, in
-- this order: the arcs of the square, row by row, from each node to the next of its row and to the next of its column; the
-- vehicles, from 1; the batches
unfoldable pub texts_of : LoadShape → Texts
texts_of shape =
    let side = shape.side in
    let right : ℕ → ℕ → Part = λ i j. if nat_lt (j + 1) side then arcs_between (node_id side i j) (node_id side i (j + 1)) else plain [] in
    let down : ℕ → ℕ → Part = λ i j. if nat_lt (i + 1) side then arcs_between (node_id side i j) (node_id side (i + 1) j) else plain [] in
    let network = each (λ i. each (λ j. both (right i j) (down i j)) side) side (stream_of splitmix_steps shape.seed) in
    let fleet = each (λ n. vehicle_row shape (n + 1)) shape.vehicles network.1 in
    let script = each (batch_rows shape) shape.rounds fleet.1 in
    record {
      network = network_header ++ 10 ∷ flat_map csv_line network.0;
      fleet = fleet_header ++ 10 ∷ flat_map csv_line fleet.0;
      script = script_header ++ 10 ∷ flat_map csv_line script.0;
    }
