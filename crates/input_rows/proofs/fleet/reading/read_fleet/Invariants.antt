use Rattle.std.proofs.Common.{◌≡◌, ◌↔◌, ℕ, List, true, Contains, Ok, length}
use Rattle.input_rows.proofs.Common.{all_or_first, Vehicle, IsFleet, has_node, vehicle_of_row, has_vehicle}
use Rattle.std.specs.List.{All}
use Rattle.input_rows.proofs.fleet.FleetLemmas.{is_known}
use Rattle.input_rows.proofs.fleet.reading.read_fleet.Given as goal

-- what stands after so many rows
pub record HasReadRows (nodes : List ℕ) (row : ℕ) (records : List (List (List ℕ))) (sorted : List Vehicle) : Type 0 where
  pub vehicles : List Vehicle
  pub read : all_or_first (vehicle_of_row nodes records) row ≡ Ok vehicles
  pub members : (v : Vehicle) → Contains sorted v ↔ Contains vehicles v
  pub known : (id : ℕ) → has_vehicle sorted id ≡ is_known records row id
  pub fleet : IsFleet sorted
  pub count : length sorted ≡ row
  pub named : All (λ v. has_node nodes v.node ≡ true) sorted

abbrev pub invariant-loop-row : goal.invariant-loop-row
invariant-loop-row l = HasReadRows l.network.nodes l.row l.rows.records l.vehicles.items
