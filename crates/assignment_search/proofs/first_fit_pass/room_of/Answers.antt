use Rattle.std.proofs.Common.{◌≡◌, ◌<◌, ℤ, pos, ◌-ℤ◌, ◌*ℤ◌, ap, ◌∙◌, arith, w64, to_z, of_z}
use Rattle.assignment_search.proofs.Common.{row_at, usable_of, least_cost, multiplier_sum, TripRow, row_read}
use Rattle.std.proofs.lemmas.Int.{to_z-of_z}
use Rattle.assignment_search.proofs.lemmas.FirstFitLemmas.{room_from}
use Rattle.assignment_search.proofs.first_fit_pass.room_of.Goals as goal

pub returns-clause-value : goal.returns-clause-value
returns-clause-value c =
    let g = c.args.graph.now in
    let u = usable_of c.args.allowed.now in
    let x = c.index-rows-row.result in
    let read : x ≡ row_at g c.args.row = row_read g c.rows.result.now c.args.row x c.rows.ensures.value c.requires.row c.index-rows-row.is in
    let good = c.rows.ensures.good.rows c.args.row c.requires.row in
    let vehicle : x.vehicle < g.vehicles = omega (arith, good.vehicle, ap (λ (r : TripRow). r.vehicle) read) in
    let least = c.cost_of_vehicle.result in
    let cheapest : least ≡ least_cost g u x.vehicle = c.cost_of_vehicle.ensures ∙ c.requires.costs.value x.vehicle vehicle in
    let back : to_z w64 (of_z w64 c.room_within.result) ≡ c.room_within.result = to_z-of_z w64 c.room_within.result
    (record { sfits = c.room_within.type_inv }) in
    let passed : to_z w64 (of_z w64 least) ≡ least = to_z-of_z w64 least (record { sfits = c.cost_of_vehicle.type_inv }) in
    back ∙ room_from g u c.args.multipliers.now c.args.row x least c.room_within.result read cheapest
    (c.room_within.ensures.value ∙ ap (λ (l : ℤ). pos 1024 *ℤ (pos x.cost -ℤ l) -ℤ multiplier_sum c.args.multipliers.now x.riders.items) passed)
