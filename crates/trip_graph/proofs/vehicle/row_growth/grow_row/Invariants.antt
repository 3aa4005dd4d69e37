use Rattle.std.proofs.Common.{◌≡◌, ◌+◌, ◌-◌, ◌<◌, ◌≤◌, [], ◌∷◌, ◌++◌, length, take, slice_index, slice_index_or}
use Rattle.trip_graph.proofs.Common.{trips_of, IsLevelUpTo, serves, costs, task_of_trip}
use Rattle.trip_graph.proofs.vehicle.row_growth.grow_row.Given as goal

abbrev pub invariant-loop-at : goal.invariant-loop-at
invariant-loop-at g l =
    let here = slice_index_or (trips_of l.rows) l.row [] in let there = slice_index_or (trips_of l.rows) l.at [] in record {
      from : l.row ≤ l.at;
      within : l.at < length l.rows;
      same : take l.size there ≡ take l.size here;
      upto : IsLevelUpTo (serves l.growth) (costs l.growth) (l.size + 2) (here ++ (slice_index there l.size + 1) ∷ []) l.growing.found.items;
      room : length l.growing.found.items ≤ l.growth.room;
      task : l.task ≡ task_of_trip l.growth l.riders;
      cost : l.steps + slice_index here l.size ≤ l.fn.steps + slice_index there l.size;
    }

abbrev pub decreases-loop-at : goal.decreases-loop-at
decreases-loop-at g l = length l.rows - l.at
