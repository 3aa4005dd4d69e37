use Rattle.std.proofs.Common.{◌≡◌, ◌+◌, arith}
use Rattle.travel_times.proofs.table.table.table_of_times.Goals as goal

pub table_of-requires-clause-rows : goal.table_of-requires-clause-rows
table_of-requires-clause-rows c = record {
  size = c.requires.size;
  times = λ i j hi hj. let at : 0 + i ≡ i = omega arith in rw at (c.requires.times i j hi hj);
}
