use Rattle.std.proofs.Common.{map, ap, ◌∙◌, arith}
use Rattle.request_book.proofs.Common.{Vehicle}
use Rattle.std.proofs.lemmas.List.{take_all}
use Rattle.request_book.proofs.lemmas.register.RegisterLemmas.{inserted, listed-new, listed-more}
use Rattle.request_book.proofs.register.running.number_vehicles.Goals as goal

pub loop-vehicle-preserved : goal.loop-vehicle-preserved
loop-vehicle-preserved c =
    let new = listed-new (λ (u : Vehicle). u.id) c.args.vehicles.now c.loop-vehicle.vehicle-index c.vehicle-item.result _ c.loop-vehicle-test.true
    c.vehicle-item.is c.loop-vehicle.invariant c.requires.differ in
    let listed = (rw c.get.ensures.value at c.in_ok-number.ensures.names) ∙ inserted _ c.vehicle-item.result.id new in
    listed-more (λ (u : Vehicle). u.id) c.args.vehicles.now c.loop-vehicle.vehicle-index c.vehicle-item.result _ c.loop-vehicle-test.true c.vehicle-item.is
    c.loop-vehicle.invariant _ listed

pub returns : goal.returns
returns c = c.loop-vehicle.invariant ∙ ap (map (λ (u : Vehicle). u.id)) (take_all c.loop-vehicle.vehicle-index c.args.vehicles.now (omega arith))
