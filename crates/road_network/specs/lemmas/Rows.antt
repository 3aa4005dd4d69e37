-- Parts of the network that rows give, as proofs call them.
use Rattle.std.specs.Prelude.{ℕ, ◌-◌, ◌^◌, List, [], ◌∷◌, Option, Some, None, is_none, length, map, nat_lt, if◌then◌else◌}
use Rattle.std.specs.List.{flat_map, range_with_len}
use Rattle.pool_base.specs.InOrder.{first_fault}
use Rattle.pool_base.specs.Numeral.{number_up_to, number_at}
use Rattle.pool_io.specs.Table.{field_at}
use Rattle.road_network.specs.Walk.{Arc}
use Rattle.road_network.specs.Roads.{Roads, index_in, leaving}
use Rattle.road_network.specs.Reading.{nodes_of, arc_seconds, refusal_at}
use Rattle.road_network.specs.declared.fault.NetworkFault.{NetworkFault}
use Rattle.road_network.specs.declared.fault.NetworkFault.TheVariants.{Number, ArcTooLong}

-- the names of a row's nodes
abbrev pub names_in : List (List ℕ) → List ℕ
names_in fields = number_at fields 0 ∷ number_at fields 1 ∷ []

-- a row's arc between the indexes of its nodes
abbrev pub arc_in : List ℕ → List (List ℕ) → Arc
arc_in nodes fields =
    record { from = index_in nodes (number_at fields 0); to = index_in nodes (number_at fields 1); seconds = arc_seconds fields }

-- arcs by their starting node, of which there are so many
abbrev pub by_node : ℕ → List Arc → List Arc
by_node count arcs = flat_map (λ node. leaving node arcs) (range_with_len 0 count)

-- the network of rows that are accepted
abbrev pub roads_of : List (List (List ℕ)) → Roads
roads_of rows =
    record { nodes = nodes_of rows; arcs = by_node (length (nodes_of rows)) (map (arc_in (nodes_of rows)) rows) }

-- why the fields of a row are refused, if they are
unfoldable pub field_refusal : ℕ → List (List ℕ) → Option NetworkFault
field_refusal row fields =
    if is_none (number_up_to 1000000000 (field_at fields 0)) then Some (Number row 1)
    else if is_none (number_up_to 1000000000 (field_at fields 1)) then Some (Number row 2)
    else if is_none (number_up_to (2 ^ 64 - 1) (field_at fields 2)) then Some (Number row 3)
    else if nat_lt 10000 (arc_seconds fields) then Some (ArcTooLong row)
    else None

-- the first refusal among rows
abbrev pub first_refusal : List (List (List ℕ)) → Option NetworkFault
first_refusal rows = first_fault (refusal_at rows) (length rows)
