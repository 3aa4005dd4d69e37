use Rattle.std.proofs.Common.{length, ap, arith}
use Rattle.travel_times.proofs.Common.{length-map, index_in}
use Rattle.travel_times.proofs.table.plain.times_by_repeated_relaxation.Goals as goal

pub cells_of-requires-clause-few : goal.cells_of-requires-clause-few
cells_of-requires-clause-few c = omega (
  arith,
  ap length c.deref.ensures.value,
  ap length c.in_ok-points.ensures.indexes,
  length-map c.args.nodes.now
      (index_in c.args.network.now.nodes),
  c.requires.few,
)
