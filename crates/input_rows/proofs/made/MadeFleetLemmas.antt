use Rattle.std.proofs.Common.{
  rules,
  ◌≡◌,
  ℕ,
  zero,
  suc,
  ◌+◌,
  ◌*◌,
  ◌<◌,
  ◌≤◌,
  ◌==◌,
  true,
  false,
  cond,
  List,
  [],
  ◌∷◌,
  Result,
  Ok,
  Err,
  map,
  length,
  take,
  get_or,
  refl,
  ap,
  subst,
  ◌∙◌,
  arith,
}
use Rattle.input_rows.proofs.Common.{
  get_or_default,
  length-map,
  get_or-map,
  list_any,
  list_any_none,
  mod_below,
  Stream,
  all_or_first,
  all_or_first-ok,
  number_at,
  nodes_of,
  has_node,
  LoadShape,
  Field,
  draw,
  draws_of,
  fleet_part,
  network_part,
  drawn_node,
  vehicle_row,
}
use Rattle.std.specs.List.Sorted.{IsStrictlyIncreasing}
use Rattle.std.proofs.lemmas.Bool.{le-ltb, ne_eqb}
use Rattle.std.proofs.lemmas.List.{get_or-take, length-take-le}
use Rattle.std.proofs.Math.Nat.{mul-le-mul}
use Rattle.request_book.specs.declared.values.vehicle.Vehicle.{Vehicle}
use Rattle.input_rows.specs.declared.fleet.fault.FleetFault.TheVariants.{TooManyVehicles}
use Rattle.input_rows.specs.fleet.Vehicle.{vehicle_in}
use Rattle.input_rows.specs.lemmas.fleet.NamedFleet.{empty_vehicle, vehicle_of_row}
use Rattle.input_rows.specs.fleet.Fleet.{IsFleetOf}
use Rattle.std.proofs.lemmas.List.FromFn.{length-map-range_with_len, get_or-map-range_with_len, map-range_with_len_more}
use Rattle.std.specs.List.{range_with_len}
use Rattle.input_rows.proofs.made.FieldLemmas.{AllFit, small_number}
use Rattle.input_rows.proofs.made.TextLemmas.{fields_of, RowsFit}
use Rattle.input_rows.proofs.made.PartLemmas.{Step, Lead, Lead-fit, IsPart, IsPart-each}
use Rattle.input_rows.proofs.made.NetworkLemmas.{network_rows}
use Rattle.input_rows.proofs.made.NodeLemmas.{node_known}
use Rattle.input_rows.specs.declared.made.row.Field.TheVariants as field

-- a row of a vehicle of four seats at one of these nodes
pub record IsVehicle (nodes : List ℕ) (id : ℕ) (row : List Field) : Type 0 where
  pub node : ℕ
  pub is : row ≡ field.Number id ∷ field.Number 4 ∷ field.Number node ∷ field.Number 0 ∷ []
  pub known : has_node nodes node ≡ true
  pub node_small : node ≤ 1000000000
  pub id_small : id ≤ 1000000000

-- a row of the vehicle of a number leads to the next number
abbrev pub VehicleStep : List ℕ → Step
VehicleStep nodes first row next = IsVehicle nodes first row × (next ≡ first + 1)

-- a node that is drawn is a node of the network
drawn_known : (shape : LoadShape) (s : Stream) → 2 ≤ shape.side → shape.side ≤ 100 → has_node (nodes_of (map fields_of (network_rows shape)))
    (drawn_node shape.side s).0 ≡ true
unfolding drawn_node draw
drawn_known shape s two small = search (rules, mul-le-mul, node_known, mod_below)

pub drawn_small : (side : ℕ) (s : Stream) → 2 ≤ side → side ≤ 100 → (drawn_node side s).0 ≤ 1000000000
unfolding drawn_node draw
drawn_small side s two small = search (rules, mul-le-mul, mod_below)

-- the rows of the vehicles, whose ids rise by one from 1
IsVehicles : (shape : LoadShape) → 2 ≤ shape.side → shape.side ≤ 100 → shape.vehicles ≤ 500 →
    IsPart (VehicleStep (nodes_of (map fields_of (network_rows shape)))) (0 + 1) (shape.vehicles + 1) (shape.vehicles * 1) (fleet_part shape)
unfolding fleet_part vehicle_row
IsVehicles shape two small few =
    IsPart-each (VehicleStep (nodes_of (map fields_of (network_rows shape)))) (λ k. k + 1) 1 (λ k. vehicle_row shape (k + 1)) shape.vehicles
    (λ k below. record {
      lead = λ s. (
        suc k + 1,
        (
          record {
            node = (drawn_node shape.side s).0;
            is = refl;
            known = drawn_known shape s two small;
            node_small =
                drawn_small shape.side s two small;
            id_small = omega arith;
          },
          omega arith,
        ),
        refl,
      );
      few = λ s. omega arith;
    })

vehicle_fits : (nodes : List ℕ) (first next : ℕ) (row : List Field) → VehicleStep nodes first row next → (length row ≡ 4) × AllFit row
vehicle_fits nodes first next row step = search (rules, AllFit)

-- the row of a vehicle is accepted
row_given : (nodes : List ℕ) (earlier : List (List (List ℕ))) (number id : ℕ) (row : List Field) → IsVehicle nodes id row →
    list_any (λ before. number_at before 0 == id) earlier ≡ false
    → vehicle_in nodes earlier number (fields_of row) ≡ Ok (empty_vehicle id 4 (number_at (fields_of row) 2) 0)
unfolding vehicle_in
row_given nodes earlier number id row vehicle new = search (rules, small_number)

-- rows of vehicles, place by place
vehicle_at : (nodes : List ℕ) (first high : ℕ) (rows : List (List Field)) (k : ℕ) → Lead (VehicleStep nodes) first high rows → k < length rows →
    IsVehicle nodes (first + k) (get_or rows k [])
vehicle_at nodes first high [] k all below = absurd (omega (arith, below))
vehicle_at nodes first high (row ∷ rows) zero all below = subst (λ n. IsVehicle nodes n row) (omega arith) all.1.0
vehicle_at nodes first high (row ∷ rows) (suc k) all below = search (rules, (vehicle_at nodes all.0 high rows k all.2))

-- the id in a row
id_at : (nodes : List ℕ) (high : ℕ) (rows : List (List Field)) (k : ℕ) → Lead (VehicleStep nodes) 1 high rows → k < length rows →
    number_at (get_or (map fields_of rows) k []) 0 ≡ 1 + k
id_at nodes high rows k all below =
    let vehicle = vehicle_at nodes 1 high rows k all below in
    rw (get_or-map fields_of rows k [] [] below, vehicle.is, small_number (1 + k) vehicle.id_small) refl

-- no row has an earlier row's vehicle
none_repeated : (nodes : List ℕ) (high : ℕ) (rows : List (List Field)) (k : ℕ) → Lead (VehicleStep nodes) 1 high rows → k < length rows →
    list_any (λ before. number_at before 0 == 1 + k) (take k (map fields_of rows)) ≡ false
none_repeated nodes high rows k all below =
    let records : List (List (List ℕ)) = map fields_of rows in
    let size : length records ≡ length rows = length-map rows fields_of in
    list_any_none (λ fields. number_at fields 0 == 1 + k) (take k records)
    (λ i d within.
    let before : i < k = omega (arith, within, length-take-le k records (omega (arith, below, size))) in
    let other : number_at (get_or records i []) 0 ≡ 1 + i = id_at nodes high rows i all (omega (arith, before, below)) in
    let read : get_or (take k records) i d ≡ get_or records i [] = get_or-take k records i d before ∙
    get_or_default records i d [] (omega (arith, before, below, size)) in
    ne_eqb (number_at (get_or (take k records) i d) 0) (1 + k) (λ e. omega (arith, before, other, ap (λ fields. number_at fields 0) read, e)))

-- the vehicle of a row
abbrev made_vehicle : List (List (List ℕ)) → ℕ → Vehicle
made_vehicle records k = empty_vehicle (1 + k) 4 (number_at (get_or records k []) 2) 0

row_made : (nodes : List ℕ) (high : ℕ) (rows : List (List Field)) (k : ℕ) → Lead (VehicleStep nodes) 1 high rows → k < length rows →
    vehicle_of_row nodes (map fields_of rows) k ≡ Ok (made_vehicle (map fields_of rows) k)
row_made nodes high rows k all below =
    rw (get_or-map fields_of rows k [] [] below)
    (row_given nodes (take k (map fields_of rows)) (k + 1) (1 + k) (get_or rows k []) (vehicle_at nodes 1 high rows k all below)
    (none_repeated nodes high rows k all below))

all_given : {A F : Type 0} (at : ℕ → Result A F) (give : ℕ → A) (n : ℕ) → ((k : ℕ) → k < n → at k ≡ Ok (give k)) →
    all_or_first at n ≡ Ok (map give (range_with_len 0 n))
all_given at give zero gives = refl
all_given at give (suc n) gives = search (rules, all_or_first-ok, map-range_with_len_more, (all_given at give n))

-- ids that rise by one rise
rising : (records : List (List (List ℕ))) (n : ℕ) → IsStrictlyIncreasing (map (λ (v : Vehicle). v.id) (map (made_vehicle records) (range_with_len 0 n)))
rising records n i within =
    let made : List Vehicle = map (made_vehicle records) (range_with_len 0 n) in
    let none : Vehicle = empty_vehicle 0 0 0 0 in
    let size : length made ≡ n = length-map-range_with_len (made_vehicle records) 0 n in
    let id : (k : ℕ) → k < n → get_or (map (λ (v : Vehicle). v.id) made) k 0 ≡ 1 + k =
    λ k below. get_or-map (λ (v : Vehicle). v.id) made k none 0 (omega (arith, below, size)) ∙
    ap (λ (v : Vehicle). v.id) (get_or-map-range_with_len (made_vehicle records) 0 n k k none below (omega arith)) in
    let inside : i + 1 < n = omega (arith, within, size, length-map made (λ (v : Vehicle). v.id)) in
    omega (arith, id i (omega (arith, inside)), id (i + 1) inside)

-- the rows of the fleet of a shape
abbrev pub fleet_rows : LoadShape → List (List Field)
fleet_rows shape = (fleet_part shape (network_part shape (draws_of shape.seed)).1).0

fleet_given : (nodes : List ℕ) (high : ℕ) (rows : List (List Field)) → Lead (VehicleStep nodes) 1 high rows → length rows ≤ 500 →
    (fleet : List Vehicle) × IsFleetOf nodes (map fields_of rows) fleet
fleet_given nodes high rows all few =
    let records : List (List (List ℕ)) = map fields_of rows in
    let size : length records ≡ length rows = length-map rows fields_of in
    let given : List Vehicle = map (made_vehicle records) (range_with_len 0 (length records)) in (
      given,
      record {
        vehicles = given;
        read =
            ap (λ b. cond b (Err TooManyVehicles) (all_or_first (vehicle_of_row nodes records) (length records)))
            (le-ltb 500 (length records) (omega (arith, size, few)))
            ∙ all_given (vehicle_of_row nodes records) (made_vehicle records) (length records)
            (λ k below. row_made nodes high rows k all (omega (arith, below, size)));
        rising = rising records (length records);
        members = λ v. ((λ has. has), (λ has. has));
      },
    )

-- the rows of a shape's fleet give a fleet, on the nodes of its network
pub fleet_accepted : (shape : LoadShape) → 2 ≤ shape.side → shape.side ≤ 100 → shape.vehicles ≤ 500 →
    RowsFit 4 (fleet_rows shape) × (fleet : List Vehicle) × IsFleetOf (nodes_of (map fields_of (network_rows shape))) (map fields_of (fleet_rows shape)) fleet
unfolding fleet_part
fleet_accepted shape two small few =
    let nodes : List ℕ = nodes_of (map fields_of (network_rows shape)) in
    let is = IsVehicles shape two small few in
    let draws : Stream = (network_part shape (draws_of shape.seed)).1 in
    let lead : Lead (VehicleStep nodes) 1 (shape.vehicles + 1) (fleet_rows shape) = is.lead draws in
    let given = fleet_given nodes (shape.vehicles + 1) (fleet_rows shape) lead (omega (arith, is.few draws, few)) in
    (Lead-fit (VehicleStep nodes) 4 (vehicle_fits nodes) 1 (shape.vehicles + 1) (fleet_rows shape) lead, given.0, given.1)
