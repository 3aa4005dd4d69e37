use Rattle.std.proofs.Common.{◌+◌, ◌*◌, ◌≤◌, [], ◌∷◌, length, slice_index_or}
use Rattle.trip_graph.proofs.Common.{trips_of, IsLevelUpTo, serves, costs, rider_count}
use Rattle.trip_graph.proofs.vehicle.row_growth.grow_rows.Given as goal

abbrev pub invariant-loop-row : goal.invariant-loop-row
invariant-loop-row g l = record {
  upto : IsLevelUpTo (serves l.growth) (costs l.growth) (l.size + 2) (slice_index_or (trips_of l.rows) l.row (rider_count l.growth ∷ [])) l.growing.found.items;
  room : length l.growing.found.items ≤ l.growth.room;
  cost : l.steps ≤ l.fn.steps + l.row * rider_count l.growth;
}
