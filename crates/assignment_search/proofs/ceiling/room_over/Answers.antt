use Rattle.std.proofs.Common.{◌≡◌, ◌<◌, ℤ, pos, ◌-ℤ◌, ◌*ℤ◌, ap, ◌∙◌, arith, rules, SFits, get_or, w64, to_z, of_z}
use Rattle.assignment_search.proofs.Common.{row_at, usable_of, least_cost, TripRow, row_read}
use Rattle.std.proofs.lemmas.Int.{to_z-of_z}
use Rattle.assignment_search.proofs.CeilingLemmas.{room_fits}
use Rattle.assignment_search.proofs.ceiling.room_over.Goals as goal

pub returns-clause-above : goal.returns-clause-above
returns-clause-above c =
    let g = c.args.graph.now in
    let u = usable_of c.args.allowed.now in
    let x = c.index-rows-row.result in
    let read : x ≡ row_at g c.args.row = row_read g c.rows-rows.result.now c.args.row x c.rows-rows.ensures.value c.requires.row c.index-rows-row.is in
    let row = c.rows-rows.ensures.good.rows c.args.row c.requires.row in
    let vehicle : x.vehicle < g.vehicles = omega (arith, row.vehicle, ap (λ (r : TripRow). r.vehicle) read) in
    let back : to_z w64 (of_z w64 c.room_within.result) ≡ c.room_within.result = to_z-of_z w64 c.room_within.result
    (record { sfits = c.room_within.type_inv }) in
    let fits : SFits w64 (get_or c.args.costs.now x.vehicle (pos 0)) = search rules in
    let cost : to_z w64 (of_z w64 (get_or c.args.costs.now x.vehicle (pos 0))) ≡ get_or c.args.costs.now x.vehicle (pos 0) =
    to_z-of_z w64 (get_or c.args.costs.now x.vehicle (pos 0)) fits in
    room_fits g u c.args.row (to_z w64 (of_z w64 c.room_within.result)) c.rows-rows.ensures.good c.requires.row c.requires.may
    (back ∙ c.room_within.ensures.value
    ∙ ap (λ (l : ℤ). pos 1024 *ℤ (pos x.cost -ℤ l)) (cost ∙ c.requires.costs.value x.vehicle vehicle)
    ∙ ap (λ (r : TripRow). pos 1024 *ℤ (pos r.cost -ℤ least_cost g u r.vehicle)) read)
