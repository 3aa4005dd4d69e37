use Rattle.std.proofs.Common.{◌≡◌, ◌+◌, length}
use Rattle.road_network.specs.Roads.{Roads}
use Rattle.road_hierarchy.specs.work.table.Part.{IsPart, IsWriting}
use Rattle.road_hierarchy.proofs.table.cells.write_block.Given as goal

abbrev pub invariant-loop-lane : goal.invariant-loop-lane
invariant-loop-lane l = record {
  size : length l.cells ≡ length l.fn.cells;
  times : (roads : Roads) → IsPart roads l.points l.part.nodes l.part.turned.items l.part.up.items l.part.down.items
      → IsWriting roads l.points l.from l.row l.fn.cells → IsWriting roads l.points l.from (l.row + l.lane) l.cells;
}
