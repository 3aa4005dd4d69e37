use Rattle.std.proofs.Common.{◌≡◌, ℕ, ◌+◌, ◌<◌, List, [], ◌∷◌, ◌++◌, length, get_or, map, take, sym, ap, ◌∙◌, subst, arith}
use Rattle.trip_graph.proofs.Common.{take_more, get_or_default, flat_map_more, TripOf, TripRow, trip_row, vehicle_rows}
use Rattle.std.proofs.lemmas.List.{take_all}
use Rattle.trip_graph.proofs.batch.rows.add_vehicle.Goals as goal

rows_more : (levels : List (List (List TripOf))) (i v : ℕ) (lists : List (List TripOf)) (trips : List TripOf) (before rows : List TripRow)
    → i < length levels → v < length lists → lists ≡ get_or levels i lists → trips ≡ get_or lists v trips
    → rows ≡ before ++ vehicle_rows (take i levels) v → rows ++ map (trip_row v) trips ≡ before ++ vehicle_rows (take (i + 1) levels) v
rows_more levels i v lists trips before rows lt less at own so_far =
    let f : List (List TripOf) → List TripRow = λ ls. map (trip_row v) (get_or ls v []) in
    let read : trips ≡ get_or lists v [] = own ∙ get_or_default lists v trips [] less in
    let more : take (i + 1) levels ≡ take i levels ++ lists ∷ [] = take_more levels i lists lt ∙
    ap (λ (l : List (List TripOf)). take i levels ++ l ∷ []) (sym at) in
    rw (so_far, more) (ap (λ (t : List TripOf). (before ++ vehicle_rows (take i levels) v) ++ map (trip_row v) t) read ∙
    flat_map_more f before (take i levels) lists)

reaches : (levels : List (List (List TripOf))) (i v : ℕ) (lists : List (List TripOf)) → ((k : ℕ) → k < length levels → v < length (get_or levels k []))
    → i < length levels → lists ≡ get_or levels i lists → v < length lists
reaches levels i v lists wide lt is = subst (λ (l : List (List TripOf)). v < length l) (get_or_default levels i [] lists lt ∙ sym is) (wide i lt)

pub bounds-as_slice-vehicle : goal.bounds-as_slice-vehicle
bounds-as_slice-vehicle c =
    subst (λ (l : List (List TripOf)). c.args.vehicle < length l) (sym c.as_slice.ensures)
    (reaches c.args.levels.now c.loop-level.level-index c.args.vehicle c.level-item.result c.requires c.loop-level-test.true c.level-item.is)

pub loop-level-preserved : goal.loop-level-preserved
loop-level-preserved c =
    let levels = c.args.levels.now in
    let i = c.loop-level.level-index in
    let lists = c.level-item.result in
    let trips = c.index-as_slice-vehicle.result in
    let within = reaches levels i c.args.vehicle lists c.requires c.loop-level-test.true c.level-item.is in
    let own : trips ≡ get_or lists c.args.vehicle trips = c.index-as_slice-vehicle.is ∙ ap (λ (l : List (List TripOf)). get_or l c.args.vehicle trips)
    c.as_slice.ensures in
    c.in_ok-add_trips.ensures ∙ ap (λ (t : List TripOf). c.loop-level.rows.items ++ map (trip_row c.args.vehicle) t) c.rows.ensures
    ∙ rows_more levels i c.args.vehicle lists trips c.args.rows.now.items c.loop-level.rows.items c.loop-level-test.true within c.level-item.is own
    c.loop-level.invariant

pub offset_bounds-as_slice-vehicle : goal.offset_bounds-as_slice-vehicle
offset_bounds-as_slice-vehicle c =
    let within = reaches c.args.levels.now c.loop-level.level-index c.args.vehicle c.level-item.result c.requires c.loop-level-test.true c.level-item.is in
    record { fits = omega (arith, within, ap length c.as_slice.ensures, c.as_slice.type_inv.1) }

pub returns : goal.returns
returns c = c.loop-level.invariant ∙ ap (λ (ls : List (List (List TripOf))). c.args.rows.now.items ++ vehicle_rows ls c.args.vehicle)
    (take_all c.loop-level.level-index c.args.levels.now (omega arith))
