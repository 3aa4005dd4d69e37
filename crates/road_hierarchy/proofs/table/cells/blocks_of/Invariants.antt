use Rattle.std.proofs.Common.{◌≡◌, length}
use Rattle.road_hierarchy.proofs.table.cells.blocks_of.Given as goal

abbrev pub invariant-loop : goal.invariant-loop
invariant-loop l = length l.blocks.items ≡ l.counter
