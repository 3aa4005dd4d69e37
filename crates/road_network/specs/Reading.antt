use Rattle.std.specs.Prelude.{ℕ, ◌+◌, ◌-◌, ◌^◌, ◌==◌, List, [], ◌∷◌, Option, Some, None, is_none, Result, Ok, Err, length, map, filter, take, slice_index_or, unwrap_or, nat_lt, if◌then◌else◌}
use Rattle.std.specs.List.{flat_map, range_with_len}
use Rattle.std.specs.Option.{option_map_or}
use Rattle.pool_base.specs.Distinct.{distinct}
use Rattle.pool_base.specs.InOrder.{first_fault}
use Rattle.pool_base.specs.Numeral.{number_up_to, number_at}
use Rattle.pool_io.specs.Table.{field_at}
use Rattle.road_network.specs.Walk.{Arc}
use Rattle.road_network.specs.Roads.{Roads, index_in}
use Rattle.road_network.specs.declared.fault.NetworkFault.{NetworkFault}
use Rattle.road_network.specs.declared.fault.NetworkFault.TheVariants.{TooManyArcs, Number, ArcTooLong, TooManyNodes}

-- the seconds of a row's arc
abbrev pub arc_seconds : List (List ℕ) → ℕ
arc_seconds fields = unwrap_or (number_up_to (2 ^ 64 - 1) (field_at fields 2)) 0

-- the nodes that rows name, each once, by first appearance, in a row `from` before `to`
abbrev pub nodes_of : List (List (List ℕ)) → List ℕ
nodes_of rows = distinct (flat_map (λ fields. number_at fields 0 ∷ number_at fields 1 ∷ []) rows)

-- why the row at a place is refused, if it is: a node's name is at most 1,000,000,000, an arc takes at most 10,000
-- seconds, and the nodes up to here are at most 100,000; rows and columns count from 1
unfoldable pub refusal_at : List (List (List ℕ)) → ℕ → Option NetworkFault
refusal_at rows place =
    let fields = slice_index_or rows place [] in
    if is_none (number_up_to 1000000000 (field_at fields 0)) then Some (Number (place + 1) 1)
    else if is_none (number_up_to 1000000000 (field_at fields 1)) then Some (Number (place + 1) 2)
    else if is_none (number_up_to (2 ^ 64 - 1) (field_at fields 2)) then Some (Number (place + 1) 3)
    else if nat_lt 10000 (arc_seconds fields) then Some (ArcTooLong (place + 1))
    else if nat_lt 100000 (length (nodes_of (take (place + 1) rows))) then Some (TooManyNodes (place + 1))
    else None

-- the network that rows give, or why they are refused: there are more than 400,000 of them, or the first refusal of one;
-- a row is an arc between the indexes of its nodes, and the arcs stand by their starting node
unfoldable pub network_of : List (List (List ℕ)) → Result Roads NetworkFault
network_of rows =
    let nodes = nodes_of rows in
    let arcs : List Arc = map (λ fields. record { from = index_in nodes (number_at fields 0); to = index_in nodes (number_at fields 1); seconds = arc_seconds fields }) rows in
    if nat_lt 400000 (length rows) then Err TooManyArcs
    else option_map_or (λ fault. Err fault) (first_fault (refusal_at rows) (length rows))
    (Ok (record { nodes = nodes; arcs = flat_map (λ node. filter (λ arc. arc.from == node) arcs) (range_with_len 0 (length nodes)) }))
