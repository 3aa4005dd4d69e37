use Rattle.std.proofs.Common.{◌≡◌, ℕ, ◌≤◌, ◌==◌, true, not, ◌&&◌, nat_le, List, [], Result, Ok, Err, Contains, eqb, length, get_or, refl, subst, ◌∙◌, arith}
use Rattle.input_rows.proofs.Common.{
  not-false,
  and_parts,
  get_or_default,
  Any-from_list_any,
  list_any_at,
  Vehicle,
  HasSeats,
  Seats,
  UnknownNode,
  Duplicate,
  ◌>>=◌,
  refused_where,
  number_in,
  number_at,
  then_ok,
  refused_where-passed,
  vehicle_in,
  empty_vehicle,
  has_node,
}
use Rattle.input_rows.specs.declared.fleet.fault.FleetFault.TheVariants.{Number}
use Rattle.std.specs.Bool.{Decides}
use Rattle.std.specs.List.{list_any}
use Rattle.input_rows.specs.declared.fleet.fault.FleetFault.{FleetFault}
use Rattle.std.proofs.lemmas.Bool.{leb-true, eqb-true, eq-eqb}
use Rattle.pool_base.proofs.lemmas.NumeralLemmas.{number_in-at}

-- what is known of a vehicle that a row gives
pub record IsNewVehicle (nodes : List ℕ) (fields : List (List ℕ)) (vehicle : Vehicle) : Type 0 where
  pub seats : HasSeats vehicle
  pub empty : length vehicle.aboard.items ≡ 0
  pub named : has_node nodes vehicle.node ≡ true
  pub id : vehicle.id ≡ number_at fields 0

pub IsNewVehicle-vehicle_in : (nodes : List ℕ) (row : ℕ) (fields : List (List ℕ)) (vehicle : Vehicle) → vehicle_in nodes [] row fields ≡ Ok vehicle →
    IsNewVehicle nodes fields vehicle
unfolding vehicle_in
IsNewVehicle-vehicle_in nodes row fields vehicle is =
    then_ok (number_in Number row fields 0) _ vehicle (IsNewVehicle nodes fields vehicle) is (λ id named is.
    then_ok (number_in Number row fields 1) _ vehicle (IsNewVehicle nodes fields vehicle) is (λ seats _ is.
    then_ok (number_in Number row fields 2) _ vehicle (IsNewVehicle nodes fields vehicle) is (λ node _ is.
    then_ok (number_in Number row fields 3) _ vehicle (IsNewVehicle nodes fields vehicle) is (λ time _ is.
    then_ok (refused_where (not (nat_le 1 seats && nat_le seats 10)) (Seats row)) _ vehicle (IsNewVehicle nodes fields vehicle) is (λ u fit is.
    then_ok (refused_where (not (has_node nodes node)) (UnknownNode row)) _ vehicle (IsNewVehicle nodes fields vehicle) is (λ v known is.
    let same : empty_vehicle id seats node time ≡ vehicle = cc in
    let range = and_parts (nat_le 1 seats) (nat_le seats 10) (not-false (nat_le 1 seats && nat_le seats 10)
    (refused_where-passed (not (nat_le 1 seats && nat_le seats 10)) (Seats row) u fit)) in
    let least : 1 ≤ seats = leb-true 1 seats range.0 in
    let most : seats ≤ 10 = leb-true seats 10 range.1 in
    subst (IsNewVehicle nodes fields) same (record {
      seats = record { some = least; most = most; enough = omega arith };
      empty = refl;
      id = number_in-at Number row fields 0 id named;
      named = not-false (has_node nodes node) (refused_where-passed (not (has_node nodes node)) (UnknownNode row) v known);
    })))))))

after : {A B C : Type 0} (r : Result A FleetFault) (whole : A → Result C FleetFault) (front : A → Result B FleetFault) (last : B → Result C FleetFault) →
    ((x : A) → whole x ≡ (front x >>= last)) → (r >>= whole) ≡ ((r >>= front) >>= last)
after (Ok x) whole front last each = each x
after (Err fault) whole front last each = refl

-- that an earlier row has the vehicle is the last refusal of a row
pub vehicle_in-last : (nodes : List ℕ) (earlier : List (List (List ℕ))) (row : ℕ) (fields : List (List ℕ)) →
    vehicle_in nodes earlier row fields ≡ (vehicle_in nodes [] row fields >>= λ vehicle. refused_where
    (list_any (λ before. number_at before 0 == vehicle.id) earlier) (Duplicate row) >>= λ _. Ok vehicle)
unfolding vehicle_in
vehicle_in-last nodes earlier row fields =
    after (number_in Number row fields 0) _ _ last (λ id. after (number_in Number row fields 1) _ _ last (λ seats.
    after (number_in Number row fields 2) _ _ last (λ node. after (number_in Number row fields 3) _ _ last (λ time.
    after (refused_where (not (nat_le 1 seats && nat_le seats 10)) (Seats row)) _ _ last (λ _.
    after (refused_where (not (has_node nodes node)) (UnknownNode row)) _ _ last (λ _. refl))))))
  where
    last : Vehicle → Result Vehicle FleetFault
    last vehicle = refused_where (list_any (λ before. number_at before 0 == vehicle.id) earlier) (Duplicate row) >>= λ _. Ok vehicle

-- a node is found just where it is among the nodes
pub has_node-Decides : (nodes : List ℕ) (node : ℕ) → Decides (has_node nodes node) (Contains nodes node)
has_node-Decides nodes node = (
  (λ found.
      let any = Any-from_list_any (λ n. eqb n node) nodes found in
      let same : any.1 ≡ node = eqb-true any.1 node any.4 in
      (any.0, any.2, get_or_default nodes any.0 node any.1 any.2 ∙ any.3 ∙ same)),
  (λ has. list_any_at (λ n. eqb n node) nodes has.0 node has.1 (eq-eqb (get_or nodes has.0 node) node has.2)),
)
