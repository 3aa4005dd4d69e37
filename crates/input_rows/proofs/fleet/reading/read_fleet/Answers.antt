use Rattle.std.proofs.Common.{◌≡◌, ◌↔◌, ◌+◌, ◌<◌, ◌≤◌, [], ◌∷◌, ◌++◌, Contains, true, length, sym, ap, subst, ◌∙◌, arith}
use Rattle.input_rows.proofs.Common.{length-insert, All-same, all_or_first-ok, IsFleet, has_node, IsFleetOf, vehicle_of_row, has_vehicle, IsPlaceOf}
use Rattle.std.specs.List.{insert}
use Rattle.std.proofs.lemmas.Result.{err_from_is_err_and}
use Rattle.pool_io.specs.Table.{record_at}
use Rattle.input_rows.proofs.fleet.FleetPlaceLemmas.{All-insert, IsFleet-insert}
use Rattle.input_rows.proofs.fleet.FleetRowLemmas.{IsNewVehicle-vehicle_in}
use Rattle.input_rows.proofs.fleet.FleetLemmas.{
  known_more,
  same_members-insert,
  vehicle_of_row-new,
  vehicle_of_row-duplicate,
  vehicle_of_row-fault,
  vehicles_of-refused,
  vehicles_of-all,
}
use Rattle.input_rows.proofs.fleet.reading.read_fleet.Goals as goal

pub returns-in_err-vehicle-clause-refused : goal.returns-in_err-vehicle-clause-refused
returns-in_err-vehicle-clause-refused c =
    let p = err_from_is_err_and c.from_residual.result c.from_residual.ensures.1 in
    let nodes = c.args.network.now.nodes in
    let records = c.args.rows.now.records in
    let row = c.loop-row.row in
    let fault = c.in_err-vehicle.field-0.0 in
    let few : length records ≤ 500 = omega arith in
    let within : row < length records = omega arith in
    rw (p.1, p.2) (λ _.
    vehicles_of-refused nodes records row c.loop-row.invariant.vehicles fault few within c.loop-row.invariant.read
    (vehicle_of_row-fault nodes records row fault (sym c.in_err-vehicle.ensures)))

pub returns-in_default-clause-refused : goal.returns-in_default-clause-refused
returns-in_default-clause-refused c =
    let nodes = c.args.network.now.nodes in
    let records = c.args.rows.now.records in
    let row = c.loop-row.row in
    let vehicle = c.in_ok-vehicle.vehicle in
    let kept = c.loop-row.invariant in
    let few : length records ≤ 500 = omega arith in
    let within : row < length records = omega arith in
    let is = sym c.in_ok-vehicle.ensures in
    let there : has_vehicle c.loop-row.vehicles.items vehicle.id ≡ true =
    ap (λ vs. has_vehicle vs vehicle.id) (sym c.deref.ensures.value) ∙ c.in_default.ensures in
    λ _.
    vehicles_of-refused nodes records row kept.vehicles _ few within kept.read
    (vehicle_of_row-duplicate nodes records row c.loop-row.vehicles.items vehicle is kept.known there)

pub loop-row-preserved : goal.loop-row-preserved
loop-row-preserved c =
    let nodes = c.args.network.now.nodes in
    let records = c.args.rows.now.records in
    let row = c.loop-row.row in
    let old = c.loop-row.vehicles.items in
    let vehicle = c.in_ok-vehicle.vehicle in
    let place = c.in-Some.place in
    let kept = c.loop-row.invariant in
    let few : length records ≤ 500 = omega arith in
    let within : row < length records = omega arith in
    let at : IsPlaceOf old vehicle.id place = subst (λ vs. IsPlaceOf vs vehicle.id place) c.deref.ensures.value c.in-Some.ensures in
    let items : c.insert.new.self.items ≡ insert old place vehicle = c.in_ok-insert.ensures.items in
    let is = sym c.in_ok-vehicle.ensures in
    let new = IsNewVehicle-vehicle_in nodes (row + 1) (record_at c.args.rows.now row) vehicle is in
    record {
      vehicles = kept.vehicles ++ vehicle ∷ [];
      read = all_or_first-ok (vehicle_of_row nodes records) row kept.vehicles vehicle kept.read
          (vehicle_of_row-new nodes records row old vehicle is kept.known at.new);
      members = λ v. subst (λ vs. Contains vs v ↔ Contains (kept.vehicles ++ vehicle ∷ []) v) (sym items)
          (same_members-insert kept.vehicles old place vehicle kept.members v);
      known = λ id. ap (λ vs. has_vehicle vs id) items ∙ known_more records row old place vehicle within new.id kept.known id;
      fleet = subst IsFleet (sym items) (IsFleet-insert old vehicle place kept.fleet (omega (arith, kept.count)) at new.seats new.empty);
      count = ap length items ∙ length-insert old place vehicle at.inside ∙ ap (λ n. n + 1) kept.count;
      named =
          All-same (λ v. has_node nodes v.node ≡ true) c.insert.new.self.items (insert old place vehicle) items
          (All-insert (λ v. has_node nodes v.node ≡ true) old place vehicle kept.named new.named);
    }

pub returns-clause-accepted : goal.returns-clause-accepted
returns-clause-accepted c =
    let nodes = c.args.network.now.nodes in
    let records = c.args.rows.now.records in
    let kept = c.loop-row.invariant in
    let few : length records ≤ 500 = omega arith in
    let all : c.loop-row.row ≡ length records = omega arith in
    subst (IsFleetOf nodes records) (sym c.of.ensures) (record {
      vehicles = kept.vehicles;
      read = vehicles_of-all nodes records c.loop-row.row kept.vehicles few all kept.read;
      rising = kept.fleet.rise;
      members = kept.members;
    })
