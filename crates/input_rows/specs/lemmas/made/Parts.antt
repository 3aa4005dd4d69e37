-- Parts of a workload, as proofs call them.
use Rattle.std.specs.Prelude.{ℕ, ◌+◌, ◌*◌, List, [], ◌∷◌, ◌++◌, nat_lt, if◌then◌else◌}
use Rattle.std.specs.List.{flat_map}
use Rattle.rand_core.specs.Stream.{Stream}
use Rattle.rand_core.specs.Steps.{stream_of}
use Rattle.rand_xoshiro.specs.SplitMix64.{splitmix_steps}
use Rattle.rider_limits.specs.declared.load_shape.LoadShape.{LoadShape}
use Rattle.input_rows.specs.declared.made.row.Field.{Field}
use Rattle.input_rows.specs.declared.made.row.Field.TheVariants.{Number, Seal, Empty}
use Rattle.input_rows.specs.made.MadeRow.{csv_line}
use Rattle.input_rows.specs.made.Part.{Part, plain, both, each}
use Rattle.input_rows.specs.made.Texts.{node_id, arcs_between, vehicle_row, report_row, submit_row, batch_rows}

-- rows, one behind another
abbrev pub csv_lines : List (List Field) → List ℕ
csv_lines rows = flat_map csv_line rows

-- a text: its header line, then its rows, one behind another
abbrev pub text_under : List ℕ → List (List Field) → List ℕ
text_under header rows = header ++ 10 ∷ csv_lines rows

-- the draws of a SplitMix64 generator with this state
abbrev pub draws_of : ℕ → Stream
draws_of state = stream_of splitmix_steps state

-- no row, and no draw
abbrev pub nothing : Part
nothing = plain []

-- the arcs between a node and the next of its row
unfoldable pub arcs_right : ℕ → ℕ → ℕ → Part
arcs_right side i j = if nat_lt (j + 1) side then arcs_between (node_id side i j) (node_id side i (j + 1)) else nothing

-- the arcs between a node and the next of its column
unfoldable pub arcs_down : ℕ → ℕ → ℕ → Part
arcs_down side i j = if nat_lt (i + 1) side then arcs_between (node_id side i j) (node_id side (i + 1) j) else nothing

-- the arcs of a row of the square
unfoldable pub arcs_of_row : ℕ → ℕ → Part
arcs_of_row side i = each (λ j. both (arcs_right side i j) (arcs_down side i j)) side

-- the rows of the network: the arcs of the square
unfoldable pub network_part : LoadShape → Part
network_part shape = each (arcs_of_row shape.side) shape.side

-- the rows of the fleet: the vehicles, from 1
unfoldable pub fleet_part : LoadShape → Part
fleet_part shape = each (λ n. vehicle_row shape (n + 1)) shape.vehicles

-- every vehicle is reported
unfoldable pub all_reports : LoadShape → ℕ → Part
all_reports shape k = each (λ n. report_row shape k (n + 1)) shape.vehicles

-- every vehicle is reported before each batch but the first
unfoldable pub reports : LoadShape → ℕ → Part
reports shape k = if nat_lt 0 k then all_reports shape k else nothing

-- the node that a number below a square's nodes names, the origin left out
abbrev pub other_than : ℕ → ℕ → ℕ
other_than origin n = if nat_lt n origin then n else n + 1

-- the seal of a batch
abbrev pub seal_row : ℕ → List Field
seal_row k = Number (2 * k + 1) ∷ Number 0 ∷ Seal ∷ Number (60 * (k + 1)) ∷ Empty ∷ Empty ∷ Empty ∷ []

-- the requests of a batch, from 1
unfoldable pub submits : LoadShape → ℕ → Part
submits shape k = each (λ n. submit_row shape k (n + 1)) shape.riders

-- the rows of the script: the batches
unfoldable pub script_part : LoadShape → Part
script_part shape = each (batch_rows shape) shape.rounds
