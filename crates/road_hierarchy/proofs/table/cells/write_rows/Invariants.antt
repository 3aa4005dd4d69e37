use Rattle.std.proofs.Common.{◌≡◌, ◌*◌, length, min}
use Rattle.road_network.specs.Roads.{Roads}
use Rattle.road_hierarchy.specs.work.table.Part.{IsPart, IsWriting}
use Rattle.road_hierarchy.proofs.table.cells.write_rows.Given as goal

abbrev pub invariant-loop-block : goal.invariant-loop-block
invariant-loop-block l = record {
  size : length l.cells ≡ length l.fn.cells;
  blocks : length l.blocks.items ≡ l.part.nodes;
  times : (roads : Roads) → IsPart roads l.points l.part.nodes l.part.turned.items l.part.up.items l.part.down.items → IsWriting roads l.points l.from
      (min (l.block * 16) l.count) l.cells;
}
