use Rattle.std.proofs.Common.{◌≡◌, Result, Ok, Err, IfOk, IsOkAnd, ◌<◌, ◌≤◌, ℕ, List, length, map, All, sym, ap, ◌∙◌, subst, arith}
use Rattle.dispatch_engine.proofs.Common.{get_or_default, no_row, TripRow, travel_time, rider_id, trip_row_line, AreTrips, AreLate, AreMoves, idle_vehicles}
use Rattle.std.specs.Global.{Vec}
use Rattle.dispatch_engine.proofs.solving.list_all.Goals as goal

-- what a call said of its items holds of the list that took them
items_have : {T E : Type 0} (r : Result (Vec T) E) {list : List T} (P : List T → Type 0) → IfOk r (λ v. P v.items) → IsOkAnd r (λ v. list ≡ v.items) → P list
items_have (Ok v) P said is = subst P (sym is) said
items_have (Err e) P said is = absurd is

items_are : {T E : Type 0} (r : Result (Vec T) E) {list items : List T} → IfOk r (λ v. v.items ≡ items) → IsOkAnd r (λ v. list ≡ v.items) → list ≡ items
items_are r {items = items} said is = items_have r (λ list. list ≡ items) said is

pub rv_lines-requires-clause-riders : goal.rv_lines-requires-clause-riders
rv_lines-requires-clause-riders c = λ k d l. (c.requires.exact.edges_exact.right k d l).riders.within 0 0 (omega arith)

pub trip_row_lines-requires-clause-riders : goal.trip_row_lines-requires-clause-riders
trip_row_lines-requires-clause-riders c =
    subst (λ (rows : List TripRow). All (λ row. All (λ r. r < length c.args.graphs.now.instance.now.settled.now.riders) row.riders.items) rows)
    (sym c.rows.ensures.value)
    (λ k d below. (c.requires.exact.exact.right k d below).served.riders.within)

pub trip_row_lines-requires-clause-few : goal.trip_row_lines-requires-clause-few
trip_row_lines-requires-clause-few c =
    subst (λ (rows : List TripRow). All (λ row. length row.riders.items ≤ 6) rows) (sym c.rows.ensures.value)
    (λ k d below. subst (λ (row : TripRow). length row.riders.items ≤ 6) (get_or_default c.args.graphs.now.graph.now.rows k no_row d below)
    (c.requires.exact.exact.good.rows k below).few)

pub returns-clause-lists : goal.returns-clause-lists
returns-clause-lists c =
    let instance = c.args.graphs.now.instance.now in
    let graph = c.args.graphs.now.graph.now in
    let settled = instance.settled.now in
    let chosen = c.args.chosen.now in
    let points = instance.points.now in
    let tau = travel_time instance.times.now in
    let left = c.in_ok-left.ensures.left in
    record {
      lapsed = items_are c.lapsed_ids.result c.lapsed_ids.ensures c.in_ok-put.ensures;
      rv = items_are c.rv_lines.result c.rv_lines.ensures c.in_ok-put-3.ensures;
      rr = items_are c.rr_lines.result c.rr_lines.ensures c.in_ok-put-4.ensures ∙ ap (λ (pairs : List (ℕ × ℕ)). map
          (λ (pair : ℕ × ℕ). (rider_id settled pair.0, rider_id settled pair.1)) pairs) c.all.ensures;
      rows = items_are c.trip_row_lines.result c.trip_row_lines.ensures c.in_ok-put-5.ensures ∙
          ap (λ (rows : List TripRow). map (trip_row_line settled) rows) c.rows.ensures.value;
      late = items_have c.late_lines.result (AreLate points tau settled) c.late_lines.ensures c.in_ok-put-2.ensures;
      trips = items_have c.chosen_trips.result (AreTrips points tau settled graph chosen) c.chosen_trips.ensures c.in_ok-put-6.ensures;
      left = items_are c.rider_ids.result c.rider_ids.ensures c.in_ok-put-7.ensures ∙ ap (λ (riders : List ℕ). map (rider_id settled) riders)
          (c.deref.ensures.value ∙ left);
      moves = subst (λ (riders : List ℕ). AreMoves tau settled (idle_vehicles settled graph chosen) riders c.put-8.new.list) (c.deref-2.ensures.value ∙ left)
          (items_have c.move_lines.result (AreMoves tau settled (idle_vehicles settled graph chosen) c.deref-2.result.now) c.move_lines.ensures
          c.in_ok-put-8.ensures);
    }
