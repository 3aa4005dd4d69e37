use Rattle.std.proofs.Common.{◌≡◌, ℕ, ◌<◌, true, false, List, [], ◌∷◌, ◌++◌, length, sym, ap, ◌∙◌, subst}
use Rattle.dispatch_engine.proofs.Common.{AllZip, range_with_len, travel_time, SettledVehicle, vehicle_at, IsLate}
use Rattle.dispatch_engine.proofs.lemmas.limits.Promises.{filter_range_skips, filter_range_takes}
use Rattle.std.specs.List.{filter}
use Rattle.dispatch_engine.proofs.lemmas.outcome.TripLemmas.{all_zip_push, vehicle_read}
use Rattle.dispatch_engine.proofs.outcome.late.late_lines.Goals as goal

pub loop-vehicle-preserved-then-not-vehicles-vehicle : goal.loop-vehicle-preserved-then-not-vehicles-vehicle
loop-vehicle-preserved-then-not-vehicles-vehicle c =
    let settled = c.args.instance.now.settled.now in let v = c.loop-vehicle.vehicle in
    let within = subst (λ (list : List SettledVehicle). v < length list) c.as_slice-vehicles.ensures c.loop-vehicle-test.true in
    let here = ap (λ (one : SettledVehicle). one.late) (vehicle_read settled c.as_slice-vehicles.result.now v _ c.as_slice-vehicles.ensures within) in
    let in_time : (vehicle_at settled v).late ≡ false = sym here ∙ c.if-not-vehicles-vehicle.true in
    subst (λ (list : List ℕ). AllZip (IsLate c.args.instance.now.points.now (travel_time c.args.instance.now.times.now) settled) list
    c.loop-vehicle.lines.items)
    (sym (filter_range_skips (λ n. (vehicle_at settled n).late) v in_time)) c.loop-vehicle.invariant

pub loop-vehicle-preserved : goal.loop-vehicle-preserved
loop-vehicle-preserved c =
    let settled = c.args.instance.now.settled.now in let v = c.loop-vehicle.vehicle in
    let R = IsLate c.args.instance.now.points.now (travel_time c.args.instance.now.times.now) settled in
    let within = subst (λ (list : List SettledVehicle). v < length list) c.as_slice-vehicles.ensures c.loop-vehicle-test.true in
    let here = ap (λ (one : SettledVehicle). one.late) (vehicle_read settled c.as_slice-vehicles.result.now v _ c.as_slice-vehicles.ensures within) in
    let late : (vehicle_at settled v).late ≡ true = sym here ∙ c.if-not-vehicles-vehicle.false in
    rw c.in_ok-push.ensures.items
    (subst (λ (list : List ℕ). AllZip R list (c.loop-vehicle.lines.items ++ c.in_ok-line.line ∷ []))
    (sym (filter_range_takes (λ n. (vehicle_at settled n).late) v late))
    (all_zip_push R (filter (λ n. (vehicle_at settled n).late) (range_with_len 0 v)) c.loop-vehicle.lines.items v c.in_ok-line.line c.loop-vehicle.invariant
    c.in_ok-line.ensures))
