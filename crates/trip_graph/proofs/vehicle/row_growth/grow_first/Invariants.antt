use Rattle.std.proofs.Common.{◌≡◌, ◌+◌, ◌≤◌, [], ◌∷◌, length}
use Rattle.trip_graph.proofs.Common.{IsLevelUpTo, serves, costs, task_of_trip}
use Rattle.trip_graph.proofs.vehicle.row_growth.grow_first.Given as goal

abbrev pub invariant-loop-rider : goal.invariant-loop-rider
invariant-loop-rider g l = record {
  upto : IsLevelUpTo (serves l.growth) (costs l.growth) 1 (l.rider ∷ []) l.growing.found.items;
  room : length l.growing.found.items ≤ l.growth.room;
  task : l.task ≡ task_of_trip l.growth [];
  cost : l.steps ≤ l.fn.steps + l.rider;
}
